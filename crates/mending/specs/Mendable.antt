-- What a table has that the mender does not refuse: `mendable` takes the verdict apart, test by test. Assumes nothing.
use Rattle.std.specs.Prelude.{ℕ, ◌*◌, ◌-◌, ◌≤◌, ◌<◌, ◌≡◌, refl, List, Bool, true, false, cond, ℤ, T}
use Rattle.std.proofs.Common.{sym, ◌∙◌, inl, inr}
use Rattle.std.proofs.Math.Bool.{true≢false}
use native.Mathlib.Omega.{arith as linear}
use Rattle.std.proofs.Math.ListN.{length}
use Rattle.script.specs.declared.Sort.TheVariants.{Script}
use Rattle.script.specs.Rows.{fields, parts, sort_of, rows, row}
use Rattle.script.specs.Refusals.{accepted, same_sort, bad_length, in_range, unused_zero, well_sorted, length_test, script_test}
use Rattle.theorems.specs.Truths.{is_true, both}
use Rattle.theorems.specs.Tests.{sort_iff}
use Rattle.theorems.specs.Lowest.{lowest_accepts}
use Rattle.theorems.specs.Accepted.{both_accept, pass_true, pass_false, sound_length}
use Rattle.mending.specs.Copies.{origins, capped_total}
use Rattle.mending.specs.Reached.{escapes}
use Rattle.mending.specs.Mended.{part_fault, mark_fault, part_test, mark_test, too_long, size_test, mend_verdict}
use Rattle.mending.specs.Falling.{Falls, Known}
use Rattle.mending.specs.PartFaults.{SoundPart, sound_part}
use Rattle.mending.specs.Escape.{Escaping, escapes_iff}
use Rattle.mending.specs.Capped.{too_long_iff}

pub record Mendable (t : List ℤ) : Type 0 where
  pub filled : 0 < rows t
  pub fours : length t ≡ 4 * rows t
  pub short : rows t ≤ 2048
  pub known : Known t
  pub ranged : (k : ℕ) → k < rows t → T (in_range t (fields (row t k)))
  pub unused : (k : ℕ) → k < rows t → T (unused_zero t k (length (fields (row t k))))
  pub falls : Falls t
  pub sorted : (k : ℕ) → k < rows t → T (well_sorted t (parts (row t k)))
  pub script : sort_of (row t (rows t - 1)) ≡ Script
  pub inside : (k : ℕ) → k < rows t → ¬ Escaping t k
  pub few : length (origins t) ≤ 2048

-- ---- each test that accepts

pub sound_parts : (t : List ℤ) → part_test t ≡ accepted → (k : ℕ) → k < rows t → SoundPart t k
unfolding part_test
sound_parts t h k i = sound_part t k ((lowest_accepts (part_fault t) (rows t) 0).0 h k (omega linear) (omega linear))

pub falls_of : (t : List ℤ) → part_test t ≡ accepted → Falls t
falls_of t h k i = (sound_parts t h k i).order

pub filled_of : (t : List ℤ) → length_test t ≡ accepted → 0 < rows t
unfolding length_test
filled_of t h = (sound_length (length t) (pass_false (bad_length (length t)) 1 0 h)).filled

pub none_escapes : (t : List ℤ) → Falls t → 0 < rows t → mark_test t ≡ accepted → (k : ℕ) → k < rows t → ¬ Escaping t k
unfolding mark_test mark_fault
none_escapes t falls filled h k i E =
    true≢false (sym ((escapes_iff t falls filled k).1 E)
    ∙ none (escapes t k (row t k)) ((lowest_accepts (mark_fault t) (rows t) 0).0 h k (omega linear) (omega linear)))
  where
    none : (b : Bool) → ◌≡◌ {A = ℕ} (cond b 13 0) 0 → b ≡ false
    none true e = absurd (omega linear)
    none false e = refl

-- ---- the verdict, taken apart

module _ (t : List ℤ) (table_room origins_room : ℕ) (h : mend_verdict t table_room origins_room ≡ accepted) where
  pub record Tests : Type 0 where
    pub length : length_test t ≡ accepted
    pub part : part_test t ≡ accepted
    pub script : script_test t ≡ accepted
    pub mark : mark_test t ≡ accepted
    pub size : size_test t table_room origins_room ≡ accepted

  pub tests : Tests
  unfolding mend_verdict
  tests =
      let a = both_accept (length_test t) _ h in
      let b = both_accept (part_test t) _ a.1 in
      let c = both_accept (script_test t) _ b.1 in
      let d = both_accept (mark_test t) (size_test t table_room origins_room) c.1 in
      record { length = a.0; part = b.0; script = c.0; mark = d.0; size = d.1 }

  -- the result passes neither 2,048 rows nor a buffer
  pub record Fits : Type 0 where
    pub few : length (origins t) ≤ 2048
    pub table : 4 * length (origins t) ≤ table_room
    pub run : length (origins t) ≤ origins_room

  pub fits : Fits
  unfolding size_test
  fits =
      let short = pass_false (too_long table_room origins_room (capped_total t)) 14 0 tests.size in
      let told = too_long_iff table_room origins_room t (falls_of t tests.part) (filled_of t tests.length) in
      record {
        few = up (λ l. true≢false (sym (told.1 (inl l)) ∙ short));
        table = up (λ l. true≢false (sym (told.1 (inr (inl l))) ∙ short));
        run = up (λ l. true≢false (sym (told.1 (inr (inr l))) ∙ short));
      }
    where
      up : {m n : ℕ} → (m < n → ⊥) → n ≤ m
      up f = omega linear

  pub mendable : Mendable t
  unfolding length_test script_test
  mendable =
      let l = sound_length (length t) (pass_false (bad_length (length t)) 1 0 tests.length) in
      let r : (k : ℕ) → k < rows t → SoundPart t k = sound_parts t tests.part in
      let s = pass_true (same_sort (sort_of (row t (rows t - 1))) Script) 7 _ tests.script in
      record {
        filled = l.filled;
        fours = l.fours;
        short = l.short;
        known = λ k i. (r k i).known;
        ranged =
            λ k i. (both (in_range t (fields (row t k))) (unused_zero t k (length (fields (row t k))))
            (r k i).ranges).0;
        unused =
            λ k i. (both (in_range t (fields (row t k))) (unused_zero t k (length (fields (row t k))))
            (r k i).ranges).1;
        falls = falls_of t tests.part;
        sorted = λ k i. (r k i).sorts;
        script = (sort_iff (sort_of (row t (rows t - 1))) Script).0 (is_true _ s);
        inside = none_escapes t (falls_of t tests.part) l.filled tests.mark;
        few = fits.few;
      }
