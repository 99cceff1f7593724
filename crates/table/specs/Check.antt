-- The verdict from the tests in their order: a test decides where those before it accept. What the tests before give to those
-- after: the size of the table, and the order, sorts and ranges of its rows. Assumes nothing.
use Rattle.std.specs.Prelude.{ℕ, ◌≤◌, ◌<◌, ◌≡◌, refl, Bool, true, false, List, ℤ, length, Result, Ok, Err}
use borrow.Author.Tests.{le-leb, lt-leb}
use Rattle.std.proofs.Common.{sym, ◌∙◌, arith as linear}
use Rattle.script.specs.Rows.{fields, row, rows}
use Rattle.script.specs.Refusals.{Verdict, ◌and_then◌, accepted, refused, bad_length, in_range, unused_zero, row_fault, length_test, row_test, row_test_within, script_test, unlinked_test, target_test, reading_test, nesting_test, verdict, verdict_within}
use Rattle.theorems.specs.Lowest.{lowest_accepts}
use Rattle.script.specs.Trees.{tree, nesting}
use Rattle.theorems.specs.Accepted.{SoundRow, sound_row, sound_length, both}
use Rattle.table.specs.declared.Refusal.{Refusal}
use Rattle.rows.specs.Numbers.{number}
use Rattle.table.specs.Verdicts.{verdict_of}
use Rattle.rows.specs.States.{Sized}
use Rattle.table.specs.Misread.{Sound}

pub sized : (t : List ℤ) {q : Bool} → q ≡ bad_length (length t) → q ≡ false → Sized t
sized t e h = let s = sound_length (length t) (sym e ∙ h) in record { filled = s.filled; fours = s.fours; short = s.short }

pub sound : {t : List ℤ} → Sized t → row_test t ≡ accepted → Sound t
unfolding row_test_within
sound {t} z h =
    let r : (k : ℕ) → k < rows t → SoundRow t k = λ k l. sound_row t k ((lowest_accepts (row_fault t) (rows t) 0).0 h k (omega linear) (omega linear)) in
    record {
      size = z;
      ordered = λ k l. (r k l).order;
      sorted = λ k l. (r k l).sorts;
      ranged = λ k l. (both (in_range t (fields (row t k))) (unused_zero t k (length (fields (row t k)))) (r k l).ranges).0;
    }

-- ---- the tests from one on

abbrev pub from_names : List ℤ → Verdict
from_names t = (target_test t and_then reading_test t) and_then nesting_test t

abbrev pub from_unlinked : List ℤ → Verdict
from_unlinked t = unlinked_test t and_then from_names t

abbrev pub from_script : List ℤ → Verdict
from_script t = script_test t and_then from_unlinked t

abbrev pub from_rows : List ℤ → Verdict
from_rows t = row_test t and_then from_script t

names_together : (t : List ℤ) → from_names t ≡ target_test t and_then reading_test t and_then nesting_test t
names_together t = go (target_test t)
  where
    go : (v : Verdict) → (v and_then reading_test t) and_then nesting_test t ≡ v and_then reading_test t and_then nesting_test t
    go accepted = refl
    go (refused n r) = refl

module _ (t : List ℤ) {q : Bool} (e : q ≡ bad_length (length t)) where
  pub short_refused : q ≡ true → verdict t ≡ refused 1 0
  unfolding verdict_within length_test
  short_refused h = rw (← e, h)

  pub length_passed : q ≡ false → verdict t ≡ from_rows t
  unfolding verdict_within length_test
  length_passed h = rw (← e, h, names_together t)

-- ---- a test that accepts leaves the verdict to the others, and one that refuses gives it

module _ {x : Result (Unit {0}) Refusal} (v w : Verdict) {u : Verdict} (e : verdict_of x ≡ v) (k : u ≡ v and_then w) where
  pub goes_on : {y : Unit {0}} → x ≡ Ok y → u ≡ w
  goes_on h = rw (← e, h) at k

  pub decides : {r : Refusal} → x ≡ Err r → u ≡ refused (number r.fault) r.row.0
  decides h = rw (← e, h) at k

-- the verdict of two tests, where the first has the answer x
module _ {x : Result (Unit {0}) Refusal} (v w : Verdict) (e : verdict_of x ≡ v) where
  pub first_refuses : {r : Refusal} → x ≡ Err r → verdict_of x ≡ v and_then w
  first_refuses h = rw (← e, h)

  pub second_decides : {y : Unit {0}} → x ≡ Ok y → w ≡ v and_then w
  second_decides h = rw (← e, h)

-- ---- 10

module _ (t : List ℤ) {d : ℕ} (e : d ≡ nesting (tree t).body) (k : verdict t ≡ nesting_test t) where
  pub nesting_accepted : d ≤ 8 → verdict t ≡ accepted
  unfolding nesting_test
  nesting_accepted h = rw (k, ← e, le-leb d 8 h)

  pub nesting_refused : 8 < d → verdict t ≡ refused 10 0
  unfolding nesting_test
  nesting_refused h = rw (k, ← e, lt-leb d 8 h)
