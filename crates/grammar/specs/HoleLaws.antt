-- What the proofs ask of sorts and holes: what may begin a part (`takes_begins`, `begins_left`), groups (`form_fits`), and
-- an expression where a formula is due (`begins_other`). Each law goes by cases over one table. Assumes nothing.
use Rattle.std.specs.Prelude.{◌≡◌, refl, true, false}
use Rattle.std.proofs.Common.{sym, ◌∙◌}
use Rattle.grammar.specs.Sorts.{Sort, number, expression, formula, statement, script, Hole, only, either, takes, wide, begins}
use Rattle.grammar.specs.Operators.{Infix, semicolon, connective, relation, operator, infix_takes, infix_makes}
use Rattle.grammar.specs.Forms.{Form, group_form, mark_form, when_form, if_form, while_form, script_form, first_place, place_takes, place_makes}
use Rattle.grammar.specs.Automaton.{form_takes}
use Rattle.grammar.specs.Tests.{false_is_not}

-- ---- sorts and holes

pub begins_own : (s : Sort) → begins (only s) s ≡ true
begins_own number = refl
begins_own expression = refl
begins_own formula = refl
begins_own statement = refl
begins_own script = refl

pub takes_begins : (h : Hole) (s : Sort) → takes h s ≡ true → begins h s ≡ true
takes_begins (only number) s e = e
takes_begins (only expression) s e = e
takes_begins (only formula) number e = false_is_not e
takes_begins (only formula) expression e = refl
takes_begins (only formula) formula e = refl
takes_begins (only formula) statement e = false_is_not e
takes_begins (only formula) script e = false_is_not e
takes_begins (only statement) s e = e
takes_begins (only script) s e = e
takes_begins either s e = e

-- what an operator takes may begin what it makes
pub begins_left : (o : Infix) (h : Hole) → begins h (infix_makes o) ≡ true → begins h (infix_takes o) ≡ true
begins_left semicolon h e = e
begins_left (connective c) h e = e
begins_left (operator o) h e = e
begins_left (relation r) (only number) e = e
begins_left (relation r) (only expression) e = refl
begins_left (relation r) (only formula) e = refl
begins_left (relation r) (only statement) e = e
begins_left (relation r) (only script) e = e
begins_left (relation r) either e = refl

-- ---- groups

group_takes : (h : Hole) (s : Sort) → begins h expression ≡ true → takes (wide h) s ≡ true → takes either s ≡ true
group_takes (only number) s b e = false_is_not b
group_takes (only expression) s b e = rw e
group_takes (only formula) s b e = e
group_takes (only statement) s b e = false_is_not b
group_takes (only script) s b e = false_is_not b
group_takes either s b e = e

-- what a form takes in a hole, its place takes
pub form_takes_less : (f : Form) (h : Hole) (s : Sort) → begins h (place_makes (first_place f) expression) ≡ true
    → takes (form_takes h f) s ≡ true → takes (place_takes (first_place f)) s ≡ true
form_takes_less group_form h s b e = group_takes h s b e
form_takes_less mark_form h s b e = e
form_takes_less when_form h s b e = e
form_takes_less if_form h s b e = e
form_takes_less while_form h s b e = e
form_takes_less script_form h s b e = e

-- what it then makes may stand in the hole
pub form_fits : (f : Form) (h : Hole) (s : Sort) → begins h (place_makes (first_place f) expression) ≡ true
    → takes (form_takes h f) s ≡ true → begins h (place_makes (first_place f) s) ≡ true
form_fits group_form h s b e = e
form_fits mark_form h s b e = b
form_fits when_form h s b e = b
form_fits if_form h s b e = b
form_fits while_form h s b e = b
form_fits script_form h s b e = b

-- a later place is no group's

-- ---- where a part begins what the hole takes and is not yet that: an expression, where a formula is due

pub begins_other : (h : Hole) (s : Sort) → begins h s ≡ true → takes h s ≡ false → (s ≡ expression) × (h ≡ only formula)
begins_other (only number) s b t = false_is_not (sym t ∙ b)
begins_other (only expression) s b t = false_is_not (sym t ∙ b)
begins_other (only formula) number b t = false_is_not b
begins_other (only formula) expression b t = (refl, refl)
begins_other (only formula) formula b t = false_is_not (sym t)
begins_other (only formula) statement b t = false_is_not b
begins_other (only formula) script b t = false_is_not b
begins_other (only statement) s b t = false_is_not (sym t ∙ b)
begins_other (only script) s b t = false_is_not (sym t ∙ b)
begins_other either s b t = false_is_not (sym t ∙ b)

-- a comparison takes it as its left side
