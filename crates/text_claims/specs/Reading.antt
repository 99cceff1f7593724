-- What the theorems of this crate speak of: a derivation of a text (`Reading`), that its numbers are in range
-- (`InRange`), that its rows have room (`Fits`), and a text that is read into a table (`Read`). The tokens are said of
-- the bytes alone, by what covers them; the scan gives just these (`scan_of`). A text has one derivation at most
-- (`one_reading`), so what is said of any derivation of a text is said of its script, `text_tree`; and a text has one
-- exactly where the productions of the grammar derive its tokens (`reading_derives`), the phrase of the derivation
-- (`derivation_read`): what the productions group is what is grouped in the script. Assumes nothing.
use Rattle.std.specs.Prelude.{ℕ, ◌*◌, ◌≤◌, ◌≡◌, ◌↔◌, List, false, ℤ, length}
use Rattle.std.proofs.Common.{subst}
use Rattle.grammar.specs.Productions.{script, Derives}
use Rattle.grammar.specs.Grammar.{Phrase}
use Rattle.grammar.specs.Text.{Spells}
use Rattle.grammar.specs.TextRead.{text_unique}
use Rattle.grammar.specs.PhraseOf.{phrase}
use Rattle.grammar.specs.Derivations.{derivation_spells, derives_exactly}
use Rattle.grammar.specs.Counts.{size}
use Rattle.grammar.specs.Meaning.{text_table}
use Rattle.grammar.specs.Scanning.{Lexeme, tokens_of, lexemes, scan}
use Rattle.grammar.specs.Covers.{ScannedAs}
use Rattle.grammar.specs.CoversOnce.{one_scan, reads_exactly}
use Rattle.grammar.specs.Ranges.{flags, All}

-- x is a derivation of the text: its tokens are those which, with blanks between them, cover the bytes
pub record Reading (bytes : List ℕ) (x : Phrase) : Type 0 where
  pub found : List Lexeme
  pub covered : ScannedAs bytes found
  pub spells : Spells x (tokens_of found)

-- "at most 32,768 bytes"
abbrev pub Short : List ℕ → Type 0
Short bytes = length bytes ≤ 32768

-- every numeral, variable and k of a mark: no loops are around, and no unary minus is before
abbrev pub InRange : Phrase → Type 0
InRange x = All (flags 0 false x)

-- the rows pass neither the buffer of so many words nor 2,048
abbrev pub Fits : ℕ → Phrase → Type 0
Fits room x = (4 * size x ≤ room) × (size x ≤ 2048)

-- the text is read into the table
pub record Read (room : ℕ) (bytes : List ℕ) (table : List ℤ) : Type 0 where
  pub short : Short bytes
  pub of : Phrase
  pub reading : Reading bytes of
  pub in_range : InRange of
  pub fits : Fits room of
  pub table_of : table ≡ text_table of

-- ---- one derivation

-- the tokens of a derivation are those that the scan gives, and the other way round
pub scan_of : (bytes : List ℕ) (ls : List Lexeme) → ScannedAs bytes ls ↔ (scan bytes ≡ lexemes ls)
scan_of bytes ls = let e = reads_exactly bytes ls in (e.1, e.0)

-- "Each text of the grammar has one reading"
pub one_reading : (bytes : List ℕ) (x y : Phrase) → Reading bytes x → Reading bytes y → x ≡ y
one_reading bytes x y r q =
    let same = one_scan bytes r.found q.found r.covered q.covered in
    let there = subst (λ (ls : List Lexeme). Spells x (tokens_of ls)) same r.spells in
    text_unique x y (tokens_of q.found) there q.spells

-- ---- by productions

-- the texts with a derivation are those whose tokens the productions of the grammar derive
pub reading_derives : (bytes : List ℕ)
    → ((x : Phrase) × Reading bytes x) ↔ ((ls : List Lexeme) × ScannedAs bytes ls × Derives script (tokens_of ls))
reading_derives bytes = (there, back)
  where
    there : (x : Phrase) × Reading bytes x → (ls : List Lexeme) × ScannedAs bytes ls × Derives script (tokens_of ls)
    there r = let q = r.1 in (q.found, q.covered, (derives_exactly (tokens_of q.found)).1 (r.0, q.spells))

    back : (ls : List Lexeme) × ScannedAs bytes ls × Derives script (tokens_of ls) → (x : Phrase) × Reading bytes x
    back d =
        let s = (derives_exactly (tokens_of d.0)).0 d.2 in
        (s.0, record { found = d.0; covered = d.1; spells = s.1 })

module _ (bytes : List ℕ) (ls : List Lexeme) (covered : ScannedAs bytes ls) (d : Derives script (tokens_of ls)) where
  pub derivation_reading : Reading bytes (phrase d)
  derivation_reading = record { found = ls; covered = covered; spells = derivation_spells d }

  pub derivation_read : (x : Phrase) → Reading bytes x → x ≡ phrase d
  derivation_read x r = one_reading bytes x (phrase d) r derivation_reading
