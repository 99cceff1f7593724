-- A block without an assignment to v is passed like those behind it.
use Rattle.std.proofs.Common.{◌≤◌}
use Rattle.formula_writer.specs.Search.{Unassigned}
use Rattle.formula_writer.proofs.path.pass_blocks.Given as goal

abbrev pub invariant-loop-k : goal.invariant-loop-k
invariant-loop-k l = (l.k ≤ l.j) × Unassigned l.path l.v.0 l.k l.j

abbrev pub decreases-loop-k : goal.decreases-loop-k
decreases-loop-k l = l.k
