-- `smt_writer::terms::shape_of` meets its contract: each kind by its number, then every other kind.
use Rattle.std.proofs.Common.{refl}
use Rattle.script.specs.Kinds.{kind_of, number_read, other_read}
use Rattle.smt_writer.specs.Shapes.{shape_of, other_shape}
use Rattle.smt_writer.proofs.terms.shape_of.Goals as goal

pub returns-in-Constant : goal.returns-in-Constant
unfolding shape_of
returns-in-Constant c n e = rw (number_read e c.in-Constant.is refl)

pub returns-in-Variable : goal.returns-in-Variable
unfolding shape_of
returns-in-Variable c n e = rw (number_read e c.in-Variable.is refl)

pub returns-in-Mark : goal.returns-in-Mark
unfolding shape_of
returns-in-Mark c n e = rw (number_read e c.in-Mark.is refl)

pub returns-in-True : goal.returns-in-True
unfolding shape_of
returns-in-True c n e = rw (number_read e c.in-True.is refl)

pub returns-in-False : goal.returns-in-False
unfolding shape_of
returns-in-False c n e = rw (number_read e c.in-False.is refl)

pub returns-in-Negate : goal.returns-in-Negate
unfolding shape_of
returns-in-Negate c n e = rw (number_read e c.in-Negate.is refl)

pub returns-in-Not : goal.returns-in-Not
unfolding shape_of
returns-in-Not c n e = rw (number_read e c.in-Not.is refl)

pub returns-in-Div : goal.returns-in-Div
unfolding shape_of
returns-in-Div c n e = rw (number_read e c.in-Div.is refl)

pub returns-in-Mod : goal.returns-in-Mod
unfolding shape_of
returns-in-Mod c n e = rw (number_read e c.in-Mod.is refl)

pub returns-in-Choose : goal.returns-in-Choose
unfolding shape_of
returns-in-Choose c n e = rw (number_read e c.in-Choose.is refl)

pub returns-in_default : goal.returns-in_default
unfolding kind_of
returns-in_default c n e = let d = c.in_default in other_shape n ((((((((((tt, other_read e d.not-Constant refl), other_read e d.not-Variable refl), other_read e d.not-Mark refl), other_read e d.not-True refl), other_read e d.not-False refl), other_read e d.not-Negate refl), other_read e d.not-Not refl), other_read e d.not-Div refl), other_read e d.not-Mod refl), other_read e d.not-Choose refl)
