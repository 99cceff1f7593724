-- The records so far stand at their places.
use Rattle.std.proofs.Common.{◌≡◌}
use Rattle.editor.specs.Flat.{copy_first}
use Rattle.editor.proofs.copy_first.Given as goal

abbrev pub invariant-loop-i : goal.invariant-loop-i
invariant-loop-i l = l.table ≡ copy_first l.rows l.i l.initial.table
