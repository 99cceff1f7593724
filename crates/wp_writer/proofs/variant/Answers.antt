use Rattle.std.proofs.Common.{arith}
use Rattle.wp_writer.specs.Loops.{note_in_table}
use Rattle.wp_writer.proofs.variant.Goals as goal

pub field-requires : goal.field-requires
field-requires c = (note_in_table _ _ c.requires c.field-note.ensures, omega arith)
