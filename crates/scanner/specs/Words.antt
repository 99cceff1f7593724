-- A word as a number: its bytes as digits to the base 256. The keywords are told by these numbers. Assumes nothing.
use Rattle.std.specs.Prelude.{ℕ, zero, suc, ◌+◌, ◌*◌, min, List, [], ◌∷◌, cond, eqb, Option, None, Some}
use Rattle.grammar.specs.Scanning.{Spelling}
use Rattle.grammar.specs.Numbers.{token_number}

-- the number n with the bytes after it
abbrev pub packed : ℕ → List ℕ → ℕ
packed n [] = n
packed n (b ∷ bs) = packed (256 * n + b) bs

-- the largest number of seven bytes, which is no word's
abbrev pub longest : ℕ
longest = 72057594037927935

-- a word's number; that of a word with more bytes than seven is told as the largest
abbrev pub word_number : List ℕ → ℕ
word_number w = min (packed 0 w) longest

-- the token of the first spelling with this number, or 0
unfoldable pub keyword_number : List Spelling → ℕ → ℕ
keyword_number [] n = 0
keyword_number (s ∷ ss) n = cond (eqb n (packed 0 s.bytes)) (token_number s.token) (keyword_number ss n)

-- a token's number, if it is no 0
abbrev pub numbered : ℕ → Option ℕ
numbered zero = None
numbered (suc n) = Some (suc n)

-- that token, if there is one
abbrev pub keyword_told : List Spelling → ℕ → Option ℕ
keyword_told ss n = numbered (keyword_number ss n)
