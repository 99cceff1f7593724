-- `smt_writer::names::note_names`: of the names in the formula, those from the place i on are left to be noted.
use Rattle.std.proofs.Common.{◌≡◌, ◌-◌, length}
use Rattle.script.specs.Syntax.{Formula}
use Rattle.smt.specs.Translate.{references}
use Rattle.smt_writer.specs.Nodes.{Spells}
use Rattle.smt_writer.specs.Noted.{names}
use Rattle.smt_writer.specs.Scans.{Left}
use Rattle.smt_writer.proofs.names.note_names.Given as goal

abbrev pub invariant-loop-i : goal.invariant-loop-i
invariant-loop-i l =
    (length l.flags ≡ names)
    × ((f : Formula) → Spells l.formula f → Left l.formula (references f) l.initial.flags l.flags l.i l.variables l.marks)

abbrev pub decreases-loop-i : goal.decreases-loop-i
decreases-loop-i l = length l.formula - l.i
