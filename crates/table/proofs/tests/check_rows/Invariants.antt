-- No row below r has a fault, and the states show the rows linked so far.
use Rattle.std.proofs.Common.{◌≡◌}
use Rattle.rows.specs.Patterns.{patterns}
use Rattle.table.specs.Lowest.{RowsAt}
use Rattle.table.proofs.tests.check_rows.Given as goal

abbrev pub invariant-loop-r : goal.invariant-loop-r
invariant-loop-r l = (l.kinds ≡ patterns) × RowsAt l.fn.table l.r l.states
