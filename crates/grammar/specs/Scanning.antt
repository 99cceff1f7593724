-- Bytes into tokens, each with the place of its first byte: "The longest token is taken, spaces, tabs, CR and LF part
-- tokens, and letters and digits from a letter on are one word". `scan` gives the tokens, or the first byte that begins
-- none. Assumes nothing.
use Rattle.std.specs.Prelude.{ℕ, zero, suc, ◌+◌, ◌*◌, ◌-◌, List, [], ◌∷◌, map, Bool, true, false, cond, ◌&&◌, ◌||◌, eqb, leb, length, take, drop}
use Prim.Native.Char.{code}
use Prim.Native.String.{String, [] as end, ◌∷◌ as ◌before◌}
use Rattle.std.proofs.Math.Option.{Option, none, some}
use Rattle.script.specs.declared.Operator.TheVariants.{Plus, Minus, Times, Div, Mod}
use Rattle.script.specs.declared.Relation.TheVariants.{Less, AtMost, Equal, Unequal}
use Rattle.script.specs.declared.Connective.TheVariants.{And, Or, Implies}
use Rattle.grammar.specs.Operators.{semicolon, connective, relation, operator}
use Rattle.grammar.specs.Forms.{group_form, mark_form, when_form, if_form, while_form, script_form}
use Rattle.grammar.specs.Tokens.{Token, numeral, variable, truth_word, skip_word, not_word, assert_word, becomes, infix_word, form_word, closer_word, bracket_closer, comma_closer, then_closer, else_closer, end_closer, keep_closer, fall_closer, do_closer, post_closer, end_of_text}

-- the bytes of an ASCII text
abbrev pub bytes : String → List ℕ
bytes end = []
bytes (◌before◌ c s) = code c ∷ bytes s

abbrev pub is_blank : ℕ → Bool
is_blank b = eqb b 32 || eqb b 9 || eqb b 13 || eqb b 10

abbrev pub is_digit : ℕ → Bool
is_digit b = leb 48 b && leb b 57

abbrev pub is_letter : ℕ → Bool
is_letter b = (leb 65 b && leb b 90) || (leb 97 b && leb b 122)

-- how many bytes at the front are such
abbrev pub front : (ℕ → Bool) → List ℕ → ℕ
front p [] = 0
front p (b ∷ bs) = cond (p b) (suc (front p bs)) 0

abbrev pub same_bytes : List ℕ → List ℕ → Bool
same_bytes [] [] = true
same_bytes [] (c ∷ cs) = false
same_bytes (b ∷ bs) [] = false
same_bytes (b ∷ bs) (c ∷ cs) = eqb b c && same_bytes bs cs

abbrev pub begins_with : List ℕ → List ℕ → Bool
begins_with bs w = same_bytes (take (length w) bs) w

-- ---- numbers

abbrev pub decimal : ℕ → List ℕ → ℕ
decimal n [] = n
decimal n (d ∷ ds) = decimal (10 * n + (d - 48)) ds

-- a numeral with a leading zero is read as one that is beyond every range
abbrev pub number : List ℕ → ℕ
number [] = 0
number (d ∷ []) = d - 48
number (d ∷ e ∷ ds) = cond (eqb d 48) 4294967295 (decimal 0 (d ∷ e ∷ ds))

-- ---- words and symbols

pub record Spelling : Type 0 where
  pub bytes : List ℕ
  pub token : Token

abbrev spelt : String → Token → Spelling
spelt s t = record { bytes = bytes s; token = t }

abbrev pub keywords : List Spelling
keywords =
    spelt "pre" (form_word script_form) ∷ spelt "post" (closer_word post_closer) ∷ spelt "skip" skip_word ∷ spelt "assert" assert_word
    ∷ spelt "if" (form_word if_form) ∷ spelt "then" (closer_word then_closer) ∷ spelt "else" (closer_word else_closer)
    ∷ spelt "end" (closer_word end_closer) ∷ spelt "while" (form_word while_form) ∷ spelt "keep" (closer_word keep_closer)
    ∷ spelt "fall" (closer_word fall_closer) ∷ spelt "do" (closer_word do_closer) ∷ spelt "implies" (infix_word (connective Implies))
    ∷ spelt "or" (infix_word (connective Or)) ∷ spelt "and" (infix_word (connective And)) ∷ spelt "not" not_word
    ∷ spelt "div" (infix_word (operator Div)) ∷ spelt "mod" (infix_word (operator Mod)) ∷ spelt "mark" (form_word mark_form)
    ∷ spelt "when" (form_word when_form) ∷ spelt "true" (truth_word true) ∷ spelt "false" (truth_word false) ∷ []

-- longer ones first
abbrev pub symbols : List Spelling
symbols =
    spelt ":=" becomes ∷ spelt "<=" (infix_word (relation AtMost)) ∷ spelt "<>" (infix_word (relation Unequal))
    ∷ spelt "<" (infix_word (relation Less)) ∷ spelt "=" (infix_word (relation Equal)) ∷ spelt "+" (infix_word (operator Plus))
    ∷ spelt "-" (infix_word (operator Minus)) ∷ spelt "*" (infix_word (operator Times)) ∷ spelt "(" (form_word group_form)
    ∷ spelt ")" (closer_word bracket_closer) ∷ spelt "," (closer_word comma_closer) ∷ spelt ";" (infix_word semicolon) ∷ []

-- a token, and how many bytes it has
pub record Found : Type 0 where
  pub token : Token
  pub size : ℕ

abbrev found : Token → ℕ → Option Found
found t n = some (record { token = t; size = n })

-- "v with digits"
abbrev pub variable_of : List ℕ → Option Found
variable_of [] = none
variable_of (b ∷ []) = none
variable_of (b ∷ d ∷ ds) =
    cond (eqb b 118 && eqb (front is_digit (d ∷ ds)) (length (d ∷ ds))) (found (variable (number (d ∷ ds))) (length (b ∷ d ∷ ds))) none

-- a whole word: "a keyword, or v with digits"
abbrev pub word_of : List Spelling → List ℕ → Option Found
word_of [] w = variable_of w
word_of (s ∷ ss) w = cond (same_bytes w s.bytes) (found s.token (length w)) (word_of ss w)

abbrev pub symbol_of : List Spelling → List ℕ → Option Found
symbol_of [] bs = none
symbol_of (s ∷ ss) bs = cond (begins_with bs s.bytes) (found s.token (length s.bytes)) (symbol_of ss bs)

abbrev pub numeral_of : List ℕ → Option Found
numeral_of ds = found (numeral (number ds)) (length ds)

abbrev pub is_word_byte : ℕ → Bool
is_word_byte b = is_letter b || is_digit b

-- the token that the first byte begins
unfoldable pub token_at : List ℕ → Option Found
token_at [] = none
token_at (b ∷ bs) =
    cond (is_digit b) (numeral_of (take (front is_digit (b ∷ bs)) (b ∷ bs)))
    (cond (is_letter b) (word_of keywords (take (front is_word_byte (b ∷ bs)) (b ∷ bs))) (symbol_of symbols (b ∷ bs)))

-- ---- a text

pub record Lexeme : Type 0 where
  pub token : Token
  pub place : ℕ

pub data Scanned : Type 0 where
  -- "40 at the first byte that begins no token"
  no_token : ℕ → Scanned
  lexemes : List Lexeme → Scanned

abbrev pub with_first : Lexeme → Scanned → Scanned
with_first l (no_token p) = no_token p
with_first l (lexemes ls) = lexemes (l ∷ ls)

abbrev pub at_end : ℕ → Scanned
at_end p = lexemes (record { token = closer_word end_of_text; place = p } ∷ [])

-- past the token that was found at p
abbrev pub past : Option Found → (ℕ → List ℕ → Scanned) → ℕ → List ℕ → Scanned
past none go p bs = no_token p
past (some f) go p bs = with_first (record { token = f.token; place = p }) (go (p + f.size) (drop f.size bs))

-- from place p on; the first number bounds the tokens and blanks, and the number of bytes is enough
unfoldable pub scan_from : ℕ → ℕ → List ℕ → Scanned
scan_from zero p bs = at_end p
scan_from (suc n) p [] = at_end p
scan_from (suc n) p (b ∷ bs) =
    cond (is_blank b) (scan_from n (p + 1) bs) (past (token_at (b ∷ bs)) (λ q cs. scan_from n q cs) p (b ∷ bs))

unfoldable pub scan : List ℕ → Scanned
scan bs = scan_from (length bs) 0 bs

abbrev pub tokens_of : List Lexeme → List Token
tokens_of ls = map (λ (l : Lexeme). l.token) ls
