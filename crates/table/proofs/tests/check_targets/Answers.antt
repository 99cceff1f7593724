use Rattle.std.proofs.Common.{arith}
use Rattle.table.specs.Lowest.{targets_more, targets_refused, targets_accepted}
use Rattle.table.proofs.tests.check_targets.Goals as goal

pub returns-then-assigns_frozen : goal.returns-then-assigns_frozen
returns-then-assigns_frozen c =
    targets_refused _ c.loop-r.invariant c.row_count-r-end.ensures c.loop-r-test.true c.assigns_frozen.ensures c.if-assigns_frozen.true

pub loop-r-preserved : goal.loop-r-preserved
loop-r-preserved c =
    targets_more _ c.loop-r.invariant c.row_count-r-end.ensures c.loop-r-test.true c.assigns_frozen.ensures c.if-assigns_frozen.false

pub returns : goal.returns
returns c = targets_accepted _ c.loop-r.invariant (omega (arith, c.row_count-r-end.ensures))
