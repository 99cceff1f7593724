-- The array has the nesting of each row below r.
use Rattle.std.proofs.Common.{◌≤◌}
use Rattle.table.specs.Nesting.{Nestings}
use Rattle.table.proofs.nesting.script_nesting.Given as goal

abbrev pub invariant-loop-r : goal.invariant-loop-r
invariant-loop-r l = (l.r ≤ l.rows) × Nestings l.fn.table l.r l.nestings
