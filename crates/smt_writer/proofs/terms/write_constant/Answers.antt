-- `smt_writer::terms::write_constant` meets its contract, by the sign.
use mir.Facts.{to_z-of_z}
use Rattle.output.specs.Written.{then}
use Rattle.smt_writer.proofs.Constants.{negative_constant, other_constant}
use Rattle.smt_writer.proofs.terms.write_constant.Goals as goal

pub returns-then-value-lt0 : goal.returns-then-value-lt0
returns-then-value-lt0 c =
    rw (negative_constant (to_z-of_z c.ranges.value) c.magnitude-n.ensures c.if-value-lt0.true)
    (then c.push_text.ensures (then c.push_number.ensures c.push_byte.ensures))

pub returns-else-value-lt0 : goal.returns-else-value-lt0
returns-else-value-lt0 c =
    rw (other_constant (to_z-of_z c.ranges.value) c.magnitude-n.ensures c.if-value-lt0.false) c.push_number-else-value-lt0.ensures
