-- The lines of a list, written one after the other: what a trailer's writer asks and leaves (`Trailing`, `Trailed`), what the writer of all
-- lines asks and leaves (`Ready`, `AllWritten`), and what holds at each of its turns (`LinesLeft`, `Lining`). Its turns are in
-- `LineTurns`. Assumes nothing.
use Rattle.std.specs.Prelude.{ℕ, ◌+◌, ◌-◌, ◌≤◌, ◌<◌, ◌≡◌, refl, List, [], ◌∷◌, ◌++◌, ℤ, pos, length, get_or}
use Rattle.std.proofs.Common.{sym, ap, ◌∙◌, arith as linear}
use Rattle.script.specs.Conditions.{Condition}
use Rattle.script.specs.Words.{Form, without_depth, with_depth, all_lines, count_word, list_words}
use Rattle.script.specs.Listing.{trailer_length, form_of}
use Rattle.output.specs.declared.Output.{Output}
use Rattle.output.specs.Written.{Written, Left, written_as}
use Rattle.theorems.specs.WordsAt.{Stands, stands_as, whole_words}
use Rattle.shortening.specs.Simplify.{order, shorten_all}
use Rattle.shortening.specs.Lists.{count_same}
use Rattle.list_reader.specs.Lines.{Tail}
use Rattle.shortener.specs.Tasks.{Noted}
use Rattle.shortener.specs.Turns.{Ended}

-- ---- a trailer

-- a formula was written from start on, if there was room, and a trailer of so many words stands in the list at a place
pub record Trailing (ws : List ℤ) (tail at start : ℕ) (o : Output ℤ) : Type 0 where
  pub words : Tail ws tail
  pub inside : at + tail ≤ length ws
  pub spans : o.at ≤ length o.list.now → (start ≤ o.at) × (o.at - start ≤ 16384)

-- the fourth word of the trailer there, in the form that has one
abbrev pub fourth : Form → List ℤ → ℕ → List ℤ
fourth without_depth ws at = []
fourth with_depth ws at = get_or ws (at + 3) (pos 0) ∷ []

-- trailers of three words have none, and those of four have one
module _ {ws : List ℤ} {tail : ℕ} (words : Tail ws tail) (at : ℕ) where
  pub no_fourth : tail < 4 → [] ≡ fourth (form_of ws) ws at
  no_fourth h = of_form (form_of ws) (rw words.is at h)
    where
      of_form : (form : Form) → trailer_length form < 4 → [] ≡ fourth form ws at
      of_form without_depth k = refl
      of_form with_depth k = absurd (omega linear)

  pub a_fourth : 4 ≤ tail → get_or ws (at + 3) (pos 0) ∷ [] ≡ fourth (form_of ws) ws at
  a_fourth h = of_form (form_of ws) (rw words.is at h)
    where
      of_form : (form : Form) → 4 ≤ trailer_length form → get_or ws (at + 3) (pos 0) ∷ [] ≡ fourth form ws at
      of_form without_depth k = absurd (omega linear)
      of_form with_depth k = refl

-- kind, row and fourth word as they stand there, and how many words n the formula has now
abbrev pub Trailed : List ℤ → ℕ → ℕ → Output ℤ → Output ℤ → Type 0
Trailed ws at start o o' =
    (n : ℕ) → (o.at ≤ length o.list.now → o.at ≡ start + n)
    → Written o (get_or ws at (pos 0) ∷ get_or ws (at + 1) (pos 0) ∷ pos n ∷ fourth (form_of ws) ws at) o'

-- ---- all lines

-- ws is the list of count conditions
pub record Listed (ws : List ℤ) (count : ℕ) (cs : List Condition) : Type 0 where
  pub spells : list_words (form_of ws) cs ≡ ws
  pub counted : length cs ≡ count

-- some conditions are listed, and what becomes of their nodes is told
pub record Ready (ws : List ℤ) (count : ℕ) (es ks : List ℕ) : Type 0 where
  pub conditions : List Condition
  pub listed : Listed ws count conditions
  pub short : length ws ≤ 16384
  pub ended : Ended ws es
  pub told : Noted ws ks 0 (length ws)
  pub room : length ws ≤ length ks

-- whatever conditions are listed, their list was written in its form, shortened
abbrev pub AllWritten : List ℤ → ℕ → Output ℤ → Output ℤ → Type 0
AllWritten ws count o o' =
    (cs : List Condition) → Listed ws count cs → Written o (list_words (form_of ws) (shorten_all order cs)) o'

-- ---- a turn

-- the words of a list from some lines on
abbrev pub rest_words : Form → ℕ → List Condition → List ℤ
rest_words form count rest = all_lines form rest ++ (count_word form count ∷ [])

pub record LinesLeft (ws : List ℤ) (count at left : ℕ) (o₀ : Output ℤ) (cs : List Condition) (o : Output ℤ) : Type 0 where
  pub rest : List Condition
  pub many : length rest ≡ left
  pub stands : Stands ws at (rest_words (form_of ws) count rest)
  pub writes : Left o₀ (list_words (form_of ws) (shorten_all order cs)) o (rest_words (form_of ws) count (shorten_all order rest))

pub record Lining (ws : List ℤ) (count : ℕ) (es ks₀ : List ℕ) (o₀ : Output ℤ) (at left : ℕ) (ks : List ℕ) (o : Output ℤ) : Type 0 where
  pub ready : Ready ws count es ks₀
  pub told : Noted ws ks at (length ws)
  pub changes : length ks ≡ length ks₀
  pub list : length o.list.now ≡ length o₀.list.now
  pub lines : (cs : List Condition) → Listed ws count cs → LinesLeft ws count at left o₀ cs o

pub lining : {ws : List ℤ} {count : ℕ} {es ks : List ℕ} {o : Output ℤ} → Ready ws count es ks → Lining ws count es ks o 0 count ks o
unfolding list_words
lining {ws} {count} r = record {
  ready = r;
  told = r.told;
  changes = refl;
  list = refl;
  lines = λ cs h. record {
    rest = cs;
    many = h.counted;
    stands = stands_as (sym h.spells ∙ ap (λ n. rest_words (form_of ws) n cs) h.counted) (whole_words ws);
    writes = λ o' w.
        let same = sym h.counted ∙ sym (count_same order cs) in
        written_as (ap (λ n. rest_words (form_of ws) n (shorten_all order cs)) same) w;
  };
}
