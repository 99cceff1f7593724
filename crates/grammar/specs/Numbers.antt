-- The numbers that the code has for tokens: a token that makes a row has the kind of that row, as 01 numbers them, and
-- the others have numbers that are no kind. A numeral's value is told up to `most`, which is beyond every range.
-- Assumes nothing.
use Rattle.std.specs.Prelude.{ℕ, min, cond}
use Rattle.script.specs.declared.Operator.TheVariants.{Plus, Minus, Times, Div, Mod}
use Rattle.script.specs.declared.Relation.TheVariants.{Less, AtMost, Equal, Unequal}
use Rattle.script.specs.declared.Connective.TheVariants.{And, Or, Implies}
use Rattle.grammar.specs.Operators.{Infix, semicolon, connective, relation, operator}
use Rattle.grammar.specs.Forms.{Form, group_form, mark_form, when_form, if_form, while_form, script_form}
use Rattle.grammar.specs.Tokens.{Closer, bracket_closer, comma_closer, then_closer, else_closer, end_closer, keep_closer, fall_closer, do_closer, post_closer, end_of_text, Token, numeral, variable, truth_word, skip_word, not_word, assert_word, becomes, infix_word, form_word, closer_word}

abbrev pub infix_number : Infix → ℕ
infix_number semicolon = 34
infix_number (connective And) = 23
infix_number (connective Or) = 24
infix_number (connective Implies) = 25
infix_number (relation Less) = 18
infix_number (relation AtMost) = 19
infix_number (relation Equal) = 20
infix_number (relation Unequal) = 21
infix_number (operator Plus) = 3
infix_number (operator Minus) = 4
infix_number (operator Times) = 5
infix_number (operator Div) = 6
infix_number (operator Mod) = 7

abbrev pub form_number : Form → ℕ
form_number group_form = 40
form_number mark_form = 9
form_number when_form = 10
form_number if_form = 35
form_number while_form = 36
form_number script_form = 48

abbrev pub closer_number : Closer → ℕ
closer_number bracket_closer = 41
closer_number comma_closer = 42
closer_number then_closer = 43
closer_number else_closer = 44
closer_number end_closer = 45
closer_number keep_closer = 46
closer_number fall_closer = 47
closer_number do_closer = 49
closer_number post_closer = 50
closer_number end_of_text = 51

unfoldable pub token_number : Token → ℕ
token_number (numeral n) = 1
token_number (variable v) = 2
token_number (truth_word b) = cond b 16 17
token_number skip_word = 32
token_number not_word = 22
token_number assert_word = 38
token_number becomes = 33
token_number (infix_word o) = infix_number o
token_number (form_word f) = form_number f
token_number (closer_word c) = closer_number c

abbrev pub most : ℕ
most = 4294967295

-- of a numeral or a variable
unfoldable pub token_value : Token → ℕ
token_value (numeral n) = min n most
token_value (variable v) = min v most
token_value (truth_word b) = 0
token_value skip_word = 0
token_value not_word = 0
token_value assert_word = 0
token_value becomes = 0
token_value (infix_word o) = 0
token_value (form_word f) = 0
token_value (closer_word c) = 0
