use Rattle.std.proofs.Common.{arith}
use Rattle.table.specs.Lowest.{unlinked_more, unlinked_refused, unlinked_accepted}
use Rattle.table.proofs.tests.check_unlinked.Goals as goal

pub returns-then-states-r-lt97 : goal.returns-then-states-r-lt97
returns-then-states-r-lt97 c =
    unlinked_refused _ c.requires.0 c.requires.1 c.loop-r.invariant (omega (arith, c.row_count-last.ensures)) c.if-states-r-lt97.true

pub loop-r-preserved : goal.loop-r-preserved
loop-r-preserved c =
    unlinked_more _ c.requires.0 c.requires.1 c.loop-r.invariant (omega (arith, c.row_count-last.ensures)) c.if-states-r-lt97.false

pub returns : goal.returns
returns c = unlinked_accepted _ c.loop-r.invariant (omega (arith, c.row_count-last.ensures))
