-- What a text gives: a number with a place, or the words of its table (`outcome`), "44 goes first, then 40 anywhere,
-- 41, 42 and 43". Assumes nothing.
use Rattle.std.specs.Prelude.{ℕ, ◌*◌, List, [], ◌∷◌, Bool, cond, ◌&&◌, ℤ, leb, length}
use Rattle.std.proofs.Math.Option.{Option, none, some}
use Rattle.grammar.specs.Scanning.{Lexeme, tokens_of, Scanned, no_token, lexemes, scan}
use Rattle.grammar.specs.Grammar.{Phrase}
use Rattle.grammar.specs.Counts.{size}
use Rattle.grammar.specs.Meaning.{text_table}
use Rattle.grammar.specs.States.{Frame, Mode, operand, after, due, State, start}
use Rattle.grammar.specs.Reader.{take, read}
use Rattle.grammar.specs.Ranges.{flag, all_of}

pub data Outcome : Type 0 where
  -- a number and a place
  refused : ℕ → ℕ → Outcome
  given : List ℤ → Outcome

-- ---- 41

abbrev pub or_at : Option State → ℕ → (State → Option ℕ) → Option ℕ
or_at none p go = some p
or_at (some r) p go = go r

-- the place of the first token that is refused: "41 at the first token that no text of the grammar, ranges aside, could
-- have there (or the text's end)"
unfoldable pub stuck : State → List Lexeme → Option ℕ
stuck s [] = none
stuck s (l ∷ ls) = or_at (take s l.token) l.place (λ r. stuck r ls)

-- ---- 42

abbrev pub out_after : Option State → (State → Option ℕ) → Option ℕ
out_after none go = none
out_after (some r) go = go r

-- the place of the first number out of range: "42 at the first numeral or variable out of range (a mark's k too) or
-- with a leading zero"
unfoldable pub out_of_range : State → List Lexeme → Option ℕ
out_of_range s [] = none
out_of_range s (l ∷ ls) =
    cond (all_of (flag s.mode s.stack l.token)) (out_after (take s l.token) (λ r. out_of_range r ls)) (some l.place)

-- ---- the order of the numbers

-- "43 at 0 when the rows pass the buffer or 2,048"
abbrev pub has_room : ℕ → ℕ → Bool
has_room room rows = leb (4 * rows) room && leb rows 2048

abbrev pub table_out : ℕ → Phrase → Outcome
table_out room x = cond (has_room room (size x)) (given (text_table x)) (refused 43 0)

-- all tokens are taken, so this is a script on an empty stack
abbrev pub phrase_out : ℕ → Mode → List Frame → Outcome
phrase_out room operand fs = refused 41 0
phrase_out room (after x) [] = table_out room x
phrase_out room (after x) (f ∷ fs) = refused 41 0
phrase_out room (due d f) fs = refused 41 0

abbrev pub read_out : ℕ → Option State → Outcome
read_out room none = refused 41 0
read_out room (some s) = phrase_out room s.mode s.stack

abbrev pub range_out : ℕ → List Lexeme → Option ℕ → Outcome
range_out room ls (some p) = refused 42 p
range_out room ls none = read_out room (read start (tokens_of ls))

abbrev pub stuck_out : ℕ → List Lexeme → Option ℕ → Outcome
stuck_out room ls (some p) = refused 41 p
stuck_out room ls none = range_out room ls (out_of_range start ls)

abbrev pub scanned_out : ℕ → Scanned → Outcome
scanned_out room (no_token p) = refused 40 p
scanned_out room (lexemes ls) = stuck_out room ls (stuck start ls)

-- "44 at 0 for a text over 32,768 bytes; 44 goes first, then 40 anywhere, 41, 42 and 43"
unfoldable pub outcome : ℕ → List ℕ → Outcome
outcome room bs = cond (leb (length bs) 32768) (scanned_out room (scan bs)) (refused 44 0)
