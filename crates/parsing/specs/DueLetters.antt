-- The word that is due, by its number. By cases over one table each. Assumes nothing.
use Rattle.std.specs.Prelude.{ℕ, ◌≡◌, refl, Bool, true, false, eqb}
use Rattle.script.specs.declared.Operator.TheVariants.{Plus, Minus, Times, Div, Mod}
use Rattle.script.specs.declared.Relation.TheVariants.{Less, AtMost, Equal, Unequal}
use Rattle.script.specs.declared.Connective.TheVariants.{And, Or, Implies}
use Rattle.grammar.specs.Operators.{Infix, semicolon, connective, relation, operator}
use Rattle.grammar.specs.Forms.{Form, group_form, mark_form, when_form, if_form, while_form, script_form}
use Rattle.grammar.specs.Tokens.{Closer, bracket_closer, comma_closer, then_closer, else_closer, end_closer, keep_closer, fall_closer, do_closer, post_closer, end_of_text, Token, numeral, variable, truth_word, skip_word, not_word, assert_word, becomes, infix_word, form_word, closer_word, Due, bracket_due, becomes_due}
use Rattle.grammar.specs.Automaton.{is_due, form_due}
use Rattle.grammar.specs.Numbers.{infix_number, form_number, closer_number, token_number}

abbrev pub due_word_number : Due → ℕ
due_word_number bracket_due = 40
due_word_number becomes_due = 33

-- it is neither
abbrev Other : ℕ → Type 0
Other n = (eqb n 40 ≡ false) × (eqb n 33 ≡ false)

infix_other : (o : Infix) → Other (infix_number o)
infix_other semicolon = (refl, refl)
infix_other (connective And) = (refl, refl)
infix_other (connective Or) = (refl, refl)
infix_other (connective Implies) = (refl, refl)
infix_other (relation Less) = (refl, refl)
infix_other (relation AtMost) = (refl, refl)
infix_other (relation Equal) = (refl, refl)
infix_other (relation Unequal) = (refl, refl)
infix_other (operator Plus) = (refl, refl)
infix_other (operator Minus) = (refl, refl)
infix_other (operator Times) = (refl, refl)
infix_other (operator Div) = (refl, refl)
infix_other (operator Mod) = (refl, refl)

closer_other : (c : Closer) → Other (closer_number c)
closer_other bracket_closer = (refl, refl)
closer_other comma_closer = (refl, refl)
closer_other then_closer = (refl, refl)
closer_other else_closer = (refl, refl)
closer_other end_closer = (refl, refl)
closer_other keep_closer = (refl, refl)
closer_other fall_closer = (refl, refl)
closer_other do_closer = (refl, refl)
closer_other post_closer = (refl, refl)
closer_other end_of_text = (refl, refl)

form_is_due : (f : Form) → (eqb (form_number f) 40 ≡ form_due bracket_due f) × (eqb (form_number f) 33 ≡ false)
form_is_due group_form = (refl, refl)
form_is_due mark_form = (refl, refl)
form_is_due when_form = (refl, refl)
form_is_due if_form = (refl, refl)
form_is_due while_form = (refl, refl)
form_is_due script_form = (refl, refl)

truth_other : (b : Bool) → Other (token_number (truth_word b))
unfolding token_number
truth_other true = (refl, refl)
truth_other false = (refl, refl)

bracket_test : (t : Token) → eqb (token_number t) 40 ≡ is_due bracket_due t
unfolding token_number
bracket_test (numeral n) = refl
bracket_test (variable v) = refl
bracket_test (truth_word b) = (truth_other b).0
bracket_test skip_word = refl
bracket_test not_word = refl
bracket_test assert_word = refl
bracket_test becomes = refl
bracket_test (infix_word o) = (infix_other o).0
bracket_test (form_word f) = (form_is_due f).0
bracket_test (closer_word c) = (closer_other c).0

becomes_test : (t : Token) → eqb (token_number t) 33 ≡ is_due becomes_due t
unfolding token_number
becomes_test (numeral n) = refl
becomes_test (variable v) = refl
becomes_test (truth_word b) = (truth_other b).1
becomes_test skip_word = refl
becomes_test not_word = refl
becomes_test assert_word = refl
becomes_test becomes = refl
becomes_test (infix_word o) = (infix_other o).1
becomes_test (form_word f) = (form_is_due f).1
becomes_test (closer_word c) = (closer_other c).1

pub due_test : (d : Due) (t : Token) → eqb (token_number t) (due_word_number d) ≡ is_due d t
due_test bracket_due t = bracket_test t
due_test becomes_due t = becomes_test t
