-- `smt_writer::terms::write_opening` meets its contract: each kind by its number, then every other kind.
use Rattle.std.proofs.Common.{refl}
use Rattle.script.specs.Kinds.{kind_of, number_read, other_read}
use Rattle.smt_writer.specs.Openings.{opening, other_opening}
use Rattle.smt_writer.proofs.terms.write_opening.Goals as goal

pub returns-in-Plus : goal.returns-in-Plus
unfolding opening
returns-in-Plus c n e = rw (number_read e c.in-Plus.is refl) c.push_text.ensures

pub returns-in-Minus : goal.returns-in-Minus
unfolding opening
returns-in-Minus c n e = rw (number_read e c.in-Minus.is refl) c.push_text-in-Minus.ensures

pub returns-in-Times : goal.returns-in-Times
unfolding opening
returns-in-Times c n e = rw (number_read e c.in-Times.is refl) c.push_text-in-Times.ensures

pub returns-in-Negate : goal.returns-in-Negate
unfolding opening
returns-in-Negate c n e = rw (number_read e c.in-Negate.is refl) c.push_text-in-Negate.ensures

pub returns-in-Choose : goal.returns-in-Choose
unfolding opening
returns-in-Choose c n e = rw (number_read e c.in-Choose.is refl) c.push_text-in-Choose.ensures

pub returns-in-Less : goal.returns-in-Less
unfolding opening
returns-in-Less c n e = rw (number_read e c.in-Less.is refl) c.push_text-in-Less.ensures

pub returns-in-AtMost : goal.returns-in-AtMost
unfolding opening
returns-in-AtMost c n e = rw (number_read e c.in-AtMost.is refl) c.push_text-in-AtMost.ensures

pub returns-in-Equal : goal.returns-in-Equal
unfolding opening
returns-in-Equal c n e = rw (number_read e c.in-Equal.is refl) c.push_text-in-Equal.ensures

pub returns-in-Unequal : goal.returns-in-Unequal
unfolding opening
returns-in-Unequal c n e = rw (number_read e c.in-Unequal.is refl) c.push_text-in-Unequal.ensures

pub returns-in-Not : goal.returns-in-Not
unfolding opening
returns-in-Not c n e = rw (number_read e c.in-Not.is refl) c.push_text-in-Not.ensures

pub returns-in-And : goal.returns-in-And
unfolding opening
returns-in-And c n e = rw (number_read e c.in-And.is refl) c.push_text-in-And.ensures

pub returns-in-Or : goal.returns-in-Or
unfolding opening
returns-in-Or c n e = rw (number_read e c.in-Or.is refl) c.push_text-in-Or.ensures

pub returns-in_default : goal.returns-in_default
unfolding kind_of
returns-in_default c n e = let d = c.in_default in rw (other_opening n ((((((((((((tt, other_read e d.not-Plus refl), other_read e d.not-Minus refl), other_read e d.not-Times refl), other_read e d.not-Negate refl), other_read e d.not-Choose refl), other_read e d.not-Less refl), other_read e d.not-AtMost refl), other_read e d.not-Equal refl), other_read e d.not-Unequal refl), other_read e d.not-Not refl), other_read e d.not-And refl), other_read e d.not-Or refl)) c.push_text-in_default.ensures
