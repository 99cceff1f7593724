-- Each row below r is linked.
use Rattle.std.proofs.Common.{◌-◌}
use Rattle.script.specs.Rows.{rows}
use Rattle.script.specs.Refusals.{unlinked_fault}
use Rattle.table.specs.Lowest.{Reached}
use Rattle.table.proofs.tests.check_unlinked.Given as goal

abbrev pub invariant-loop-r : goal.invariant-loop-r
invariant-loop-r l = Reached (unlinked_fault l.fn.table) (rows l.fn.table - 1) l.r
