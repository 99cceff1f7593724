-- The variable and the row fit one word.
use Rattle.std.proofs.Common.{arith, to_z-of_z}
use Rattle.formula_writer.specs.Nodes.{entry_fits}
use Rattle.formula_writer.proofs.path.entry.Goals as goal

pub overflow_mul-result : goal.overflow_mul-result
overflow_mul-result c = omega (arith, entry_fits _ c.requires.0 c.requires.1 c.field.ensures)

pub overflow_add-result : goal.overflow_add-result
overflow_add-result c = omega (arith, entry_fits _ c.requires.0 c.requires.1 c.field.ensures)

pub overflow_cast-result : goal.overflow_cast-result
overflow_cast-result c = record { sfits = omega (arith, entry_fits _ c.requires.0 c.requires.1 c.field.ensures) }

pub returns : goal.returns
returns c = rw (to_z-of_z (overflow_cast-result c), c.field.ensures)
