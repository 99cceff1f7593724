-- `smt_writer::terms::write_leaf` meets its contract: each kind by its number, then every other kind.
use Rattle.std.proofs.Common.{refl, ne_eqb}
use Rattle.script.specs.Laws.{back}
use Rattle.script.specs.Kinds.{kind_of, number_read, other_read}
use Rattle.smt_writer.specs.Openings.{leaf_text}
use Rattle.smt_writer.proofs.terms.write_leaf.Goals as goal

pub returns-in-Constant : goal.returns-in-Constant
unfolding leaf_text
returns-in-Constant c n e = rw (number_read e c.in-Constant.is refl) (rw (back c.ranges.number.sfits) at c.write_constant.ensures)

pub returns-in-Variable : goal.returns-in-Variable
unfolding leaf_text
returns-in-Variable c n e =
    rw (number_read e c.in-Variable.is refl) (rw (c.field_number.ensures, back c.ranges.number.sfits) at c.write_variable.ensures)

pub returns-in_default : goal.returns-in_default
unfolding leaf_text kind_of
returns-in_default c n e =
    let d = c.in_default in
    rw (ne_eqb n 1 (other_read e d.not-Constant refl), ne_eqb n 2 (other_read e d.not-Variable refl))
    (rw (c.field_number-in_default.ensures, back c.ranges.number.sfits) at c.write_mark.ensures)
