-- Which texts are read, and which number with which place every other text gets: `ReadExactly`, said here and proved
-- in `Exactly` for every text and every room. Each field says of one answer when it is given, and when not. There are
-- no other answers, and a text has one, so exactly one of the six occasions arises for each text. None of them speaks
-- of the reader or of the scan. In particular the reader's definition says 41 at 0 for tokens that are all taken and
-- make no script; by `no_text_at` no text gets it so. Assumes nothing.
use Rattle.std.specs.Prelude.{ℕ, ◌≤◌, ◌<◌, ◌≡◌, ◌↔◌, List, false, ℤ, length}
use Rattle.grammar.specs.Grammar.{Phrase}
use Rattle.grammar.specs.Scanning.{Lexeme}
use Rattle.grammar.specs.Covers.{ScannedAs, Stopped}
use Rattle.grammar.specs.Ranges.{flags}
use Rattle.grammar.specs.Places.{StuckAt}
use Rattle.grammar.specs.Outcome.{refused, given, outcome}
use Rattle.text_claims.specs.Reading.{Reading, Short, InRange, Fits, Read}
use Rattle.text_claims.specs.FirstOut.{number_places, FirstOut}

-- 40: "at the first byte that begins no token"
pub record NoTokenAt (bytes : List ℕ) (p : ℕ) : Type 0 where
  pub short : Short bytes
  -- tokens and blanks cover the text up to p, where a byte stands that is no blank and begins no token
  pub stopped : Stopped bytes p

-- 41: "at the first token that no text of the grammar, ranges aside, could have there (or the text's end)"
pub record NoTextAt (bytes : List ℕ) (p : ℕ) : Type 0 where
  pub short : Short bytes
  pub found : List Lexeme
  -- these tokens, with blanks between them, cover the text
  pub covered : ScannedAs bytes found
  -- the tokens before p begin some text, and with the one at p they begin none
  pub stuck_at : StuckAt found p

-- 42: "at the first numeral or variable out of range (a mark's k too) or with a leading zero"; one with a leading zero
-- counts as 4294967295, which is beyond every range (`LeadingZero`)
pub record OutOfRangeAt (bytes : List ℕ) (p : ℕ) : Type 0 where
  pub short : Short bytes
  pub of : Phrase
  pub reading : Reading bytes of
  pub first : FirstOut (flags 0 false of) (number_places reading.found) p

-- 43: "when the rows pass the buffer or 2,048"
pub record NoRoom (room : ℕ) (bytes : List ℕ) : Type 0 where
  pub short : Short bytes
  pub of : Phrase
  pub reading : Reading bytes of
  pub in_range : InRange of
  pub full : ¬ Fits room of

pub record ReadExactly (room : ℕ) (bytes : List ℕ) : Type 0 where
  -- "exactly those texts are read, 43 and 44 aside"
  pub read : (table : List ℤ) → (outcome room bytes ≡ given table) ↔ Read room bytes table
  pub too_long : (p : ℕ) → (outcome room bytes ≡ refused 44 p) ↔ ((p ≡ 0) × (32768 < length bytes))
  pub no_token_at : (p : ℕ) → (outcome room bytes ≡ refused 40 p) ↔ NoTokenAt bytes p
  pub no_text_at : (p : ℕ) → (outcome room bytes ≡ refused 41 p) ↔ NoTextAt bytes p
  pub out_of_range_at : (p : ℕ) → (outcome room bytes ≡ refused 42 p) ↔ OutOfRangeAt bytes p
  pub no_room : (p : ℕ) → (outcome room bytes ≡ refused 43 p) ↔ ((p ≡ 0) × NoRoom room bytes)
  pub no_other : (n p : ℕ) → outcome room bytes ≡ refused n p → (40 ≤ n) × (n ≤ 44)
