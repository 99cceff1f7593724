-- The tokens of a text, where a semicolon stands before `post`, and what a derivation of them is (`Spells`). Assumes
-- nothing.
use Rattle.std.specs.Prelude.{◌≡◌, List, [], ◌∷◌, ◌++◌, Bool, false, cond}
use Rattle.grammar.specs.Sorts.{same, script}
use Rattle.grammar.specs.Operators.{semicolon}
use Rattle.grammar.specs.Tokens.{closer-discrete, post_closer, Token, numeral, variable, truth_word, skip_word, not_word, assert_word, becomes, infix_word, form_word, closer_word}
use Rattle.grammar.specs.Grammar.{Phrase, words, sort, Good}

abbrev pub is_post : Token → Bool
is_post (numeral n) = false
is_post (variable v) = false
is_post (truth_word b) = false
is_post skip_word = false
is_post not_word = false
is_post assert_word = false
is_post becomes = false
is_post (infix_word o) = false
is_post (form_word f) = false
is_post (closer_word c) = same closer-discrete c post_closer

abbrev pub post : Token
post = closer_word post_closer

abbrev pub spelled : Token → List Token
spelled t = cond (is_post t) (infix_word semicolon ∷ t ∷ []) (t ∷ [])

unfoldable pub text : List Token → List Token
text [] = []
text (t ∷ ts) = spelled t ++ text ts

-- the derivation x of a text; "Each text of the grammar has one reading" is `TextRead.text_unique`
pub record Spells (x : Phrase) (ts : List Token) : Type 0 where
  pub good : Good x
  pub whole : sort x ≡ script
  pub spelt : text (words x) ≡ ts
