-- No assignment that was passed is to the variable.
use Rattle.std.proofs.Common.{◌≤◌}
use Rattle.formula_writer.specs.Search.{Unassigned}
use Rattle.formula_writer.proofs.path.latest.Given as goal

abbrev pub invariant-loop-i : goal.invariant-loop-i
invariant-loop-i l = (l.i ≤ l.j) × Unassigned l.path l.target l.i l.j
