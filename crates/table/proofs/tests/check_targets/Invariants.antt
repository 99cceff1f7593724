-- No row below r assigns to a frozen name.
use Rattle.script.specs.Rows.{rows}
use Rattle.script.specs.Refusals.{target_fault}
use Rattle.table.specs.Lowest.{Reached}
use Rattle.table.proofs.tests.check_targets.Given as goal

abbrev pub invariant-loop-r : goal.invariant-loop-r
invariant-loop-r l = Reached (target_fault l.fn.table) (rows l.fn.table) l.r
