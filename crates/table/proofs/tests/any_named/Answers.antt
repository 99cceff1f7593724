use Rattle.std.proofs.Common.{arith, refl}
use Rattle.table.specs.Lowest.{nameless_more, nameless_all}
use Rattle.table.proofs.tests.any_named.Goals as goal

pub loop-r-preserved : goal.loop-r-preserved
loop-r-preserved c = nameless_more c.loop-r.invariant c.is_named-found.ensures refl

pub returns : goal.returns
returns c = nameless_all (omega (arith, c.row_count-r-end.ensures)) (omega (arith, c.row_count-r-end.ensures)) c.loop-r.invariant
