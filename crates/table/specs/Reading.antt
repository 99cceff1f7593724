-- The lowest misplaced name decides the test of 9. Argument: the least of a list and a number is in the list or is the number,
-- and no row below it is in the list. Assumes nothing.
use Rattle.std.specs.Prelude.{ℕ, zero, suc, ◌-◌, ◌≤◌, ◌<◌, min, ◌⊎◌, Bool, cond, ◌||◌, eqb, ℤ, replicate}
use Rattle.std.proofs.Math.Path.{◌≡◌, refl, sym}
use Rattle.std.proofs.Common.{◌∙◌, inl, inr, ⊎_elim, arith as linear, add-one, eq-eqb, eqb-true, ne_eqb}
use Rattle.std.proofs.Math.Bool.{true, false}
use Rattle.std.proofs.lemmas.Bool.{false≢true}
use mathlib.Core.List.{List, [], ◌∷◌}
use Rattle.std.proofs.Math.Decide.{dec_lt, ℕ_discrete}
use Rattle.script.specs.Rows.{field_number, rows, word}
use Rattle.script.specs.declared.Row.{Row}
use Rattle.script.specs.Refusals.{◌and_then◌, accepted, refused, frozen, member, misreads, reading_fault, reading_test, row_test, target_fault, target_test}
use Rattle.theorems.specs.Lowest.{lowest_accepts}
use Rattle.theorems.specs.Misplaced.{misread_iff}
use Rattle.theorems.specs.Occasions.{frozen_iff}
use Rattle.theorems.specs.Standing.{Wrong, frozen_in_code, mark_in_code, mark_outside}
use Rattle.table.specs.Seen.{shows_none}
use Rattle.rows.specs.States.{Sized}
use Rattle.table.specs.Kinds.{kind_assigns, kind_named, named, assigns_at, named_at}
use Rattle.table.specs.Lowest.{Nameless, Reached, reached_none, reached_more, reached_fault, reached_all}
use Rattle.table.specs.Misread.{Misread, least}

least_low : (xs : List ℕ) (low : ℕ) → least xs low ≤ low
least_low [] low = omega linear
least_low (x ∷ xs) low = let h = least_low xs (min x low) in omega linear

or_cases : (a b : Bool) → a || b ≡ true → (a ≡ true) ⊎ (b ≡ true)
or_cases true b h = inl refl
or_cases false b h = inr h

or_right : (a b : Bool) → b ≡ true → a || b ≡ true
or_right true b h = refl
or_right false b h = h

least_below : (xs : List ℕ) (low k : ℕ) → member k xs ≡ true → least xs low ≤ k
least_below [] low k h = absurd (let z : ◌≡◌ {A = ℕ} 0 1 = cc in omega linear)
least_below (x ∷ xs) low k h =
    ⊎_elim (λ e. let a =
    eqb-true k x e in let b = least_low xs (min x low) in omega linear) (λ e. least_below xs (min x low) k
    e) (or_cases (eqb k x) (member k xs) h)

least_in : (xs : List ℕ) (low : ℕ) → least xs low < low → member (least xs low) xs ≡ true
least_in [] low h = absurd (omega linear)
least_in (x ∷ xs) low h = go (dec_lt (least xs (min x low)) (min x low)) (least_in xs (min x low))
  where
    go : Dec (least xs (min x low) < min x low)
        → (least xs (min x low) < min x low → member (least xs (min x low)) xs ≡ true)
        → member (least xs (min x low)) (x ∷ xs) ≡ true
    go (yes l) r = or_right (eqb (least xs (min x low)) x) (member (least xs (min x low)) xs) (r l)
    go (no n) r =
        let a = least_low xs (min x low) in
        let e : least xs (min x low) ≡ x = omega linear in
        rw (eq-eqb (least xs (min x low)) x e)

reach : (fault : ℕ → ℕ) (n i : ℕ) → i ≤ n → ((k : ℕ) → k < i → fault k ≡ 0) → Reached fault n i
reach fault n zero h f = reached_none
reach fault n (suc i) h f =
    rw (add-one i) at (reached_more (reach fault n i (omega linear) (λ k l. f k (omega linear))) (omega linear) (f i (omega linear)))

absent : (xs : List ℕ) (low k : ℕ) → k < least xs low → ◌≡◌ {A = ℕ} (cond (member k xs) 9 0) 0
absent xs low k h = go (member k xs) refl
  where
    go : (b : Bool) → member k xs ≡ b → ◌≡◌ {A = ℕ} (cond b 9 0) 0
    go true e = let l = least_below xs low k e in absurd (omega linear)
    go false e = refl

module _ {t : List ℤ} {m : ℕ} {s : List Bool} (z : Sized t) (d : Misread t (rows t - 1) false (replicate 2048 false) (rows t) m s) where
  found : m ≡ least (misreads t) (rows t)
  unfolding misreads
  found = let a = z.filled in d.at [] shows_none (rows t) (omega linear)

  none_below : (i : ℕ) → i ≤ m → i ≤ rows t → Reached (reading_fault t) (rows t) i
  none_below i h l = reach (reading_fault t) (rows t) i l (λ k b. let e = found in absent (misreads t) (rows t) k (omega linear))

  pub reading_refused : m < rows t → refused 9 m ≡ reading_test t
  unfolding reading_test
  reading_refused h =
      let e : member m (misreads t) ≡ true = rw (← found) at (least_in (misreads t) (rows t) (rw (← found) h)) in
      let f : reading_fault t m ≡ 9 = rw e in
      rw f at (reached_fault (none_below m (omega linear) (omega linear)) h (λ k. omega (linear, sym f ∙ k)))

  pub reading_accepted : rows t ≤ m → accepted ≡ reading_test t
  unfolding reading_test
  reading_accepted h = reached_all (none_below (rows t) h (omega linear)) (omega linear)

-- ---- without marks and frozen names 8 and 9 pass

wrong_named : {code : Bool} {inside : List ℕ} {w : Row} → Wrong code inside w → named w ≡ true
wrong_named (frozen_in_code {v} c l h) = (frozen_iff v.0).1 (l, h)
wrong_named (mark_in_code c) = refl
wrong_named (mark_outside n) = refl

unassigned : (n a : ℕ) → kind_named n a ≡ false → kind_assigns n a ≡ false
unassigned n a h = go (ℕ_discrete n 33)
  where
    go : Dec (n ≡ 33) → kind_assigns n a ≡ false
    go (yes e) = let f : frozen a ≡ false = rw e at h in rw (e, f)
    go (no d) = rw (ne_eqb n 33 d)

module _ (t : List ℤ) (ok : row_test t ≡ accepted) (none : Nameless t) where
  no_target : target_test t ≡ accepted
  unfolding target_test
  no_target = (lowest_accepts (target_fault t) (rows t) 0).1 (λ k l b.
      rw (assigns_at t k, unassigned (field_number (word t k 0)) (field_number (word t k 1)) (sym (named_at t k) ∙ none k (omega linear))))

  no_misread : reading_test t ≡ accepted
  unfolding reading_test
  no_misread = (lowest_accepts (reading_fault t) (rows t) 0).1 (λ k l b. go k (omega linear) (member k (misreads t)) refl)
    where
      go : (k : ℕ) → k < rows t → (b : Bool) → member k (misreads t) ≡ b → ◌≡◌ {A = ℕ} (cond b 9 0) 0
      go k l true e =
          let (code, inside, stands, wrong) = (misread_iff t ok k l).0 e in
          absurd (false≢true (sym (none k l) ∙ wrong_named wrong))
      go k l false e = refl

  pub nameless_accepted : accepted ≡ target_test t and_then reading_test t
  nameless_accepted = rw (no_target, no_misread)
