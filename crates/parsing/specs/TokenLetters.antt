-- A token's number has the letters of the token: how tight it binds what is before it, which sort it takes as an
-- operator, what it ends and what it begins. By cases over one table each. Assumes nothing.
use Rattle.std.specs.Prelude.{ℕ, ◌+◌, ◌%◌, ◌≡◌, refl, Bool, true, false, eqb}
use Rattle.std.proofs.Math.Option.{Option, none, some}
use Rattle.script.specs.declared.Operator.TheVariants.{Plus, Minus, Times, Div, Mod}
use Rattle.script.specs.declared.Relation.TheVariants.{Less, AtMost, Equal, Unequal}
use Rattle.script.specs.declared.Connective.TheVariants.{And, Or, Implies}
use Rattle.grammar.specs.Operators.{Infix, semicolon, connective, relation, operator, infix_takes, infix_makes, infix_binds}
use Rattle.grammar.specs.Forms.{Form, group_form, mark_form, when_form, if_form, while_form, script_form}
use Rattle.grammar.specs.Tokens.{infix_ends, Closer, bracket_closer, comma_closer, then_closer, else_closer, end_closer, keep_closer, fall_closer, do_closer, post_closer, end_of_text, Token, numeral, variable, truth_word, skip_word, not_word, assert_word, becomes, infix_word, form_word, closer_word, Ending, by_closer, ends}
use Rattle.grammar.specs.Text.{is_post}
use Rattle.grammar.specs.Automaton.{token_binds}
use Rattle.grammar.specs.Numbers.{infix_number, form_number, closer_number, token_number}
use Rattle.parser.specs.Symbols.{binds, takes, makes, closes}
use Rattle.parser.specs.Machine.{maker, binding, operand_sort, closing}
use Rattle.parsing.specs.Encoding.{sort_letter}
use Rattle.parsing.specs.Letters.{ending_letter}

abbrev pub closing_letter : Option Ending → ℕ
closing_letter none = 45
closing_letter (some e) = ending_letter e

-- ---- an operator: it binds, takes, makes, ends; its number is small, and not that of post or of a unary minus

abbrev pub InfixLetters : Infix → Type 0
InfixLetters o =
    (binding (infix_number o) ≡ 98 + infix_binds o) × (operand_sort (infix_number o) ≡ sort_letter (infix_takes o))
    × (maker (infix_number o) ≡ sort_letter (infix_makes o)) ×
    (closing (infix_number o) ≡ closing_letter (infix_ends o))
    × (infix_number o % 64 ≡ infix_number o) × (eqb (infix_number o) 50 ≡ false) × (eqb (infix_number o) 8 ≡ false)

pub infix_letters : (o : Infix) → InfixLetters o
unfolding binds takes makes closes
infix_letters semicolon = (refl, refl, refl, refl, refl, refl, refl)
infix_letters (connective And) = (refl, refl, refl, refl, refl, refl, refl)
infix_letters (connective Or) = (refl, refl, refl, refl, refl, refl, refl)
infix_letters (connective Implies) = (refl, refl, refl, refl, refl, refl, refl)
infix_letters (relation Less) = (refl, refl, refl, refl, refl, refl, refl)
infix_letters (relation AtMost) = (refl, refl, refl, refl, refl, refl, refl)
infix_letters (relation Equal) = (refl, refl, refl, refl, refl, refl, refl)
infix_letters (relation Unequal) = (refl, refl, refl, refl, refl, refl, refl)
infix_letters (operator Plus) = (refl, refl, refl, refl, refl, refl, refl)
infix_letters (operator Minus) = (refl, refl, refl, refl, refl, refl, refl)
infix_letters (operator Times) = (refl, refl, refl, refl, refl, refl, refl)
infix_letters (operator Div) = (refl, refl, refl, refl, refl, refl, refl)
infix_letters (operator Mod) = (refl, refl, refl, refl, refl, refl, refl)

-- ---- the other tokens: each binds loosest, is no operator, and ends what it ends

abbrev PlainLetters : ℕ → Option Ending → Type 0
PlainLetters k e = (binding k ≡ 98) × (operand_sort k ≡ 95) × (closing k ≡ closing_letter e)

form_letters : (f : Form) → PlainLetters (form_number f) none
unfolding binds takes closes
form_letters group_form = (refl, refl, refl)
form_letters mark_form = (refl, refl, refl)
form_letters when_form = (refl, refl, refl)
form_letters if_form = (refl, refl, refl)
form_letters while_form = (refl, refl, refl)
form_letters script_form = (refl, refl, refl)

closer_letters : (c : Closer) → PlainLetters (closer_number c) (some (by_closer c))
unfolding binds takes closes
closer_letters bracket_closer = (refl, refl, refl)
closer_letters comma_closer = (refl, refl, refl)
closer_letters then_closer = (refl, refl, refl)
closer_letters else_closer = (refl, refl, refl)
closer_letters end_closer = (refl, refl, refl)
closer_letters keep_closer = (refl, refl, refl)
closer_letters fall_closer = (refl, refl, refl)
closer_letters do_closer = (refl, refl, refl)
closer_letters post_closer = (refl, refl, refl)
closer_letters end_of_text = (refl, refl, refl)

-- a token after a part
abbrev pub InfixAt : Token → ℕ → Type 0
InfixAt (numeral n) k = operand_sort k ≡ 95
InfixAt (variable v) k = operand_sort k ≡ 95
InfixAt (truth_word b) k = operand_sort k ≡ 95
InfixAt skip_word k = operand_sort k ≡ 95
InfixAt not_word k = operand_sort k ≡ 95
InfixAt assert_word k = operand_sort k ≡ 95
InfixAt becomes k = operand_sort k ≡ 95
InfixAt (infix_word o) k = (k ≡ infix_number o) × InfixLetters o
InfixAt (form_word f) k = operand_sort k ≡ 95
InfixAt (closer_word c) k = operand_sort k ≡ 95

abbrev pub TokenLetters : Token → ℕ → Type 0
TokenLetters t k = (binding k ≡ 98 + token_binds t) × (closing k ≡ closing_letter (ends t)) × InfixAt t k

truth_letters : (b : Bool) → TokenLetters (truth_word b) (token_number (truth_word b))
unfolding token_number binds takes closes
truth_letters true = (refl, refl, refl)
truth_letters false = (refl, refl, refl)

pub token_letters : (t : Token) → TokenLetters t (token_number t)
unfolding token_number binds takes closes
token_letters (numeral n) = (refl, refl, refl)
token_letters (variable v) = (refl, refl, refl)
token_letters (truth_word b) = truth_letters b
token_letters skip_word = (refl, refl, refl)
token_letters not_word = (refl, refl, refl)
token_letters assert_word = (refl, refl, refl)
token_letters becomes = (refl, refl, refl)
token_letters (infix_word o) = let l = infix_letters o in (l.0, l.3, (refl, l))
token_letters (form_word f) = let l = form_letters f in (l.0, l.2, l.1)
token_letters (closer_word c) = let l = closer_letters c in (l.0, l.2, l.1)

-- ---- post

closer_post : (c : Closer) → eqb (closer_number c) 50 ≡ is_post (closer_word c)
closer_post bracket_closer = refl
closer_post comma_closer = refl
closer_post then_closer = refl
closer_post else_closer = refl
closer_post end_closer = refl
closer_post keep_closer = refl
closer_post fall_closer = refl
closer_post do_closer = refl
closer_post post_closer = refl
closer_post end_of_text = refl

form_post : (f : Form) → eqb (form_number f) 50 ≡ false
form_post group_form = refl
form_post mark_form = refl
form_post when_form = refl
form_post if_form = refl
form_post while_form = refl
form_post script_form = refl

truth_post : (b : Bool) → eqb (token_number (truth_word b)) 50 ≡ false
unfolding token_number
truth_post true = refl
truth_post false = refl

pub post_number : (t : Token) → eqb (token_number t) 50 ≡ is_post t
unfolding token_number
post_number (numeral n) = refl
post_number (variable v) = refl
post_number (truth_word b) = truth_post b
post_number skip_word = refl
post_number not_word = refl
post_number assert_word = refl
post_number becomes = refl
post_number (infix_word o) = (infix_letters o).5
post_number (form_word f) = form_post f
post_number (closer_word c) = closer_post c
