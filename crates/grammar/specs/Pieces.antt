-- P4, "The longest token is taken, ..., and letters and digits from a letter on are one word: a keyword, or v with
-- digits", said of the bytes alone. A piece is what is not parted: digits, a word, or a symbol. At a place the longest
-- piece counts, and a token begins there where that piece spells one. Assumes nothing.
use Rattle.std.specs.Prelude.{ℕ, ◌≤◌, ◌≡◌, ◌⊎◌, List, [], ◌∷◌, Bool, true, length, take}
use Rattle.grammar.specs.Tokens.{Token, numeral, variable}
use Rattle.grammar.specs.Scanning.{is_digit, is_letter, is_word_byte, number, Spelling, keywords, symbols}

-- every byte is such
abbrev pub All : (ℕ → Bool) → List ℕ → Type 0
All p [] = Unit {0}
All p (b ∷ bs) = (p b ≡ true) × All p bs

-- there is a first byte, which is such, and every byte after it is such
abbrev pub Led : (ℕ → Bool) → (ℕ → Bool) → List ℕ → Type 0
Led p q [] = ⊥
Led p q (b ∷ bs) = (p b ≡ true) × All q bs

abbrev pub Digits : List ℕ → Type 0
Digits w = Led is_digit is_digit w

abbrev pub Word : List ℕ → Type 0
Word w = Led is_letter is_word_byte w

-- one of these spellings is w, and its token is t
abbrev pub Listed : List Spelling → Token → List ℕ → Type 0
Listed [] t w = ⊥
Listed (s ∷ ss) t w = ((s.token ≡ t) × (s.bytes ≡ w)) ⊎ Listed ss t w

pub data Piece (w : List ℕ) : Type 0 where
  digits : Digits w → Piece w
  word : Word w → Piece w
  symbol : (t : Token) → Listed symbols t w → Piece w

-- w is how t is written
pub data SpelledBy (w : List ℕ) (t : Token) : Type 0 where
  as_numeral : Digits w → numeral (number w) ≡ t → SpelledBy w t
  as_variable : (ds : List ℕ) → Digits ds → 118 ∷ ds ≡ w → variable (number ds) ≡ t → SpelledBy w t
  as_keyword : Listed keywords t w → SpelledBy w t
  as_symbol : Listed symbols t w → SpelledBy w t

-- the longest piece at the front of bs has n bytes
pub record Longest (bs : List ℕ) (n : ℕ) : Type 0 where
  pub within : n ≤ length bs
  pub piece : Piece (take n bs)
  pub none_longer : (m : ℕ) → m ≤ length bs → Piece (take m bs) → m ≤ n

-- the token t begins at the front of bs, and has n bytes
pub record TokenBegins (bs : List ℕ) (t : Token) (n : ℕ) : Type 0 where
  pub longest : Longest bs n
  pub spells : SpelledBy (take n bs) t
