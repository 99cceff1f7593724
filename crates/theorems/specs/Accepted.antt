-- What every later layer may use of an accepted table: each link is lower and of its sort, each row but the last is linked
-- once, the last is a script, numbers are in range, names stand where they may, and the nesting is at most 8.
-- `passed` takes the verdict apart, test by test. Assumes nothing.
use Rattle.std.specs.Prelude.{ℕ, suc, ◌*◌, ◌/◌, ◌%◌, ◌-◌, ◌≤◌, ◌<◌, ◌≡◌, refl, ◌≢◌, Bool, true, false, cond, not, ◌&&◌, ◌||◌, List, T, eqb, ltb, leb, ℤ, length}
use Rattle.std.proofs.Common.{arith as linear, eqb-true, ltb-false, leb-true}
use Rattle.std.proofs.lemmas.Bool.{eqb-false, not-false}
use Rattle.script.specs.declared.Sort.TheVariants.{Script, Unknown}
use Rattle.script.specs.Rows.{row, rows, fields, parts, sort_of}
use Rattle.script.specs.Trees.{tree, nesting}
pub use Rattle.theorems.specs.Truths.{both}
use Rattle.theorems.specs.Truths.{is_true}
use Rattle.theorems.specs.Lowest.{lowest_accepts}
use Rattle.script.specs.Refusals.{Verdict, accepted, refused, ◌and_then◌, member, bad_length, same_sort, in_range, unused_zero, all_below, well_sorted, all_new, linked, row_fault, row_fault_within, unlinked_fault, assigns_frozen, target_fault, misreads, reading_fault, length_test, row_test, row_test_within, script_test, unlinked_test, target_test, reading_test, nesting_test, verdict, verdict_within}

pub record Accepted (t : List ℤ) : Type 0 where
  pub filled : 0 < rows t
  pub fours : length t ≡ 4 * rows t
  pub short : rows t ≤ 2048
  pub ordered : (k : ℕ) → k < rows t → T (all_below t k (parts (row t k)))
  pub sorted : (k : ℕ) → k < rows t → T (well_sorted t (parts (row t k)))
  pub unshared : (k : ℕ) → k < rows t → T (all_new t (linked t k) (parts (row t k)))
  pub ranged : (k : ℕ) → k < rows t → T (in_range t (fields (row t k)))
  pub script : T (same_sort (sort_of (row t (rows t - 1))) Script)
  pub used : (k : ℕ) → k < rows t - 1 → T (member k (linked t (rows t)))
  pub ordinary : (k : ℕ) → k < rows t → T (not (assigns_frozen t (fields (row t k))))
  pub placed : (k : ℕ) → k < rows t → T (not (member k (misreads t)))
  pub shallow : nesting (tree t).body ≤ 8

-- ---- tests that passed

pub clash : {X : Type 0} {n r : ℕ} → refused n r ≡ accepted → X
clash e = absurd (let z : ◌≡◌ {A = ℕ} 0 1 = cc in omega linear)

pub both_accept : (v w : Verdict) → v and_then w ≡ accepted → (v ≡ accepted) × (w ≡ accepted)
both_accept accepted w h = (refl, h)
both_accept (refused n r) w h = clash h

-- a test that gives `accepted` where b is true
pub pass_true : (b : Bool) (n r : ℕ) → cond b accepted (refused n r) ≡ accepted → T b
pass_true true n r h = tt
pass_true false n r h = clash h

pub pass_false : (b : Bool) (n r : ℕ) → cond b (refused n r) accepted ≡ accepted → b ≡ false
pass_false true n r h = clash h
pass_false false n r h = refl

-- ---- the faults of a row

pub fault_free : (b : Bool) (k x : ℕ) → cond (not b) (suc k) x ≡ 0 → T b × (x ≡ 0)
fault_free true k x h = (tt, h)
fault_free false k x h = absurd (omega linear)

known : (b : Bool) (k x : ℕ) → cond b (suc k) x ≡ 0 → x ≡ 0
known true k x h = absurd (omega linear)
known false k x h = h

absent : (b : Bool) (k : ℕ) → cond b (suc k) 0 ≡ 0 → T (not b)
absent true k h = absurd (omega linear)
absent false k h = tt

present : (b : Bool) (k : ℕ) → cond b 0 (suc k) ≡ 0 → T b
present true k h = tt
present false k h = absurd (omega linear)

pub record SoundRow (t : List ℤ) (k : ℕ) : Type 0 where
  pub ranges : T (in_range t (fields (row t k)) && unused_zero t k (length (fields (row t k))))
  pub order : T (all_below t k (parts (row t k)))
  pub sorts : T (well_sorted t (parts (row t k)))
  pub new : T (all_new t (linked t k) (parts (row t k)))

pub sound_row : (t : List ℤ) (k : ℕ) → row_fault t k ≡ 0 → SoundRow t k
unfolding row_fault_within
sound_row t k h =
    let a = known (same_sort (sort_of (row t k)) Unknown) 1 _ h in
    let b = fault_free (in_range t (fields (row t k)) && unused_zero t k (length (fields (row t k)))) 2 _ a in
    let c = fault_free (all_below t k (parts (row t k))) 3 _ b.1 in
    let d = fault_free (well_sorted t (parts (row t k))) 4 _ c.1 in
    let e = fault_free (all_new t (linked t k) (parts (row t k))) 5 _ d.1 in
    record { ranges = b.0; order = c.0; sorts = d.0; new = e.0 }

-- ---- the length

pub record SoundLength (n : ℕ) : Type 0 where
  pub filled : 0 < n / 4
  pub fours : n ≡ 4 * (n / 4)
  pub short : n / 4 ≤ 2048

length_by : (n : ℕ) → eqb n 0 ≡ false → eqb (n % 4) 0 ≡ true → ltb 8192 n ≡ false → SoundLength n
length_by n a b c =
    let x : n ≢ 0 = eqb-false n 0 a in
    let y = eqb-true (n % 4) 0 b in
    let z = ltb-false 8192 n c in
    record { filled = omega linear; fours = omega linear; short = omega linear }

neither : (a b c : Bool) → a || (b || c) ≡ false → (a ≡ false) × (b ≡ false) × (c ≡ false)
neither true b c h = absurd (let z : ◌≡◌ {A = ℕ} 0 1 = cc in omega linear)
neither false true c h = absurd (let z : ◌≡◌ {A = ℕ} 0 1 = cc in omega linear)
neither false false true h = absurd (let z : ◌≡◌ {A = ℕ} 0 1 = cc in omega linear)
neither false false false h = (refl, refl, refl)

pub sound_length : (n : ℕ) → bad_length n ≡ false → SoundLength n
sound_length n h =
    let s = neither (eqb n 0) (not (eqb (n % 4) 0)) (ltb 8192 n) h in
    length_by n s.0 (not-false (eqb (n % 4) 0) s.1) s.2

-- ---- the verdict, taken apart

pub record Tests (t : List ℤ) : Type 0 where
  pub length : length_test t ≡ accepted
  pub row : row_test t ≡ accepted
  pub script : script_test t ≡ accepted
  pub unlinked : unlinked_test t ≡ accepted
  pub target : target_test t ≡ accepted
  pub reading : reading_test t ≡ accepted
  pub nesting : nesting_test t ≡ accepted

pub all_tests : (t : List ℤ) → verdict t ≡ accepted → Tests t
unfolding verdict_within
all_tests t h =
    let a = both_accept (length_test t) _ h in
    let b = both_accept (row_test t) _ a.1 in
    let c = both_accept (script_test t) _ b.1 in
    let d = both_accept (unlinked_test t) _ c.1 in
    let e = both_accept (target_test t) _ d.1 in
    let f = both_accept (reading_test t) (nesting_test t) e.1 in
    record { length = a.0; row = b.0; script = c.0; unlinked = d.0; target = e.0; reading = f.0; nesting = f.1 }

pub passed : (t : List ℤ) → verdict t ≡ accepted → Accepted t
unfolding length_test row_test_within script_test unlinked_test target_test reading_test nesting_test
passed t h =
    let s = all_tests t h in
    let l = sound_length (length t) (pass_false (bad_length (length t)) 1 0 s.length) in
    let r : (k : ℕ) → k < rows t → SoundRow t k =
    λ k i. sound_row t k ((lowest_accepts (row_fault t) (rows t) 0).0 s.row k (omega linear) (omega linear)) in
    record {
      filled = l.filled;
      fours = l.fours;
      short = l.short;
      ordered = λ k i. (r k i).order;
      sorted = λ k i. (r k i).sorts;
      unshared = λ k i. (r k i).new;
      ranged = λ k i. (both (in_range t (fields (row t k))) (unused_zero t k (length (fields (row t k)))) (r k i).ranges).0;
      script = pass_true (same_sort (sort_of (row t (rows t - 1))) Script) 7 _ s.script;
      used = λ k i.
          present (member k (linked t (rows t))) 6 ((lowest_accepts (unlinked_fault t) (rows t - 1) 0).0 s.unlinked k (omega linear) (omega linear));
      ordinary = λ k i.
          absent (assigns_frozen t (fields (row t k))) 7 ((lowest_accepts (target_fault t) (rows t) 0).0 s.target k (omega linear) (omega linear));
      placed = λ k i.
          absent (member k (misreads t)) 8 ((lowest_accepts (reading_fault t) (rows t) 0).0 s.reading k (omega linear) (omega linear));
      shallow = leb-true (nesting (tree t).body) 8 (is_true _ (pass_true (leb (nesting (tree t).body) 8) 10 0 s.nesting));
    }
