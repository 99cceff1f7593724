-- The number of new rows without unfolding: one pass upward in which every sum stops at 2,049 gives it exactly, or
-- 2,049 where it is more (`capped_exact`); so the test for 14 says what its words say (`too_long_iff`).
-- Argument: a capped sum of capped numbers is the capped sum of the numbers (`stop`). Assumes nothing.
use Prim.Native.Nat.{ℕ, zero, suc, ◌+◌, ◌*◌, ◌-◌, ◌≤◌, ◌<◌, min}
use Rattle.std.specs.Prelude.{◌≡◌, ◌↔◌, ◌⊎◌, true, ◌||◌, ℤ, T, length}
use Rattle.std.proofs.Math.Path.{refl, ap, subst}
use Rattle.std.proofs.Common.{sym, ◌∙◌, inl, inr, ⊎_elim, ltb→lt}
use Rattle.std.proofs.Math.Logic.Iff
use mathlib.Core.List.{List, [], ◌∷◌, ◌++◌}
use native.Mathlib.Omega.{arith as linear}
use Rattle.std.proofs.Math.Decide.{ℕ_discrete}
use Rattle.std.proofs.Math.Dec.{ltb}
use Rattle.std.proofs.Math.ListN.{get_or, length-append, get_or-append}
use Rattle.std.proofs.lemmas.List.{get_or_at}
use borrow.Author.Tests.{ltb-true, lt-ltb}
use Rattle.script.specs.Rows.{Part, parts, rows, row}
use Rattle.script.specs.Refusals.{all_below}
use Rattle.theorems.specs.Truths.{both}
use Rattle.theorems.specs.Tests.{or_iff, either}
use Rattle.mending.specs.Copies.{cap, part_sum, origins, size, capped_at, capped_from, capped_total}
use Rattle.mending.specs.Mended.{too_long}
use Rattle.mending.specs.Falling.{Falls, by_order}
use Rattle.mending.specs.Sizes.{size_step, total_is}

-- ---- sums that stop

stop : (c g x : ℕ) → min cap (c + min cap g + x) ≡ min cap (c + g + x)
stop c g x = omega linear

one_plus : (n : ℕ) → suc n ≡ 1 + n
one_plus n = omega linear

regroup : (a b c : ℕ) → a + (b + c) ≡ a + b + c
regroup a b c = omega linear

module _ (t : List ℤ) (f g : ℕ → ℕ) (r : ℕ) (capped : (k : ℕ) → k < r → f k ≡ min cap (g k)) where
  capped_sum : (ps : List Part) (c : ℕ) → T (all_below t r ps)
      → min cap (c + part_sum f ps) ≡ min cap (c + part_sum g ps)
  unfolding part_sum
  capped_sum [] c h = refl
  capped_sum (p ∷ ps) c h =
      let b = both (ltb p.at r) (all_below t r ps) h in
      rw (
        regroup c (f p.at) (part_sum f ps),
        regroup c (g p.at) (part_sum g ps),
        capped_sum ps (c + f p.at) b.1,
        capped p.at (ltb→lt p.at r b.0),
      )
      (stop c (g p.at) (part_sum g ps))

-- ---- the pass

module _ (t : List ℤ) (falls : Falls t) where
  -- the capped size of a row, from those of the rows below it
  pub capped_step : (r : ℕ) → r < rows t → (f : ℕ → ℕ) → ((k : ℕ) → k < r → f k ≡ min cap (size t k))
      → min cap (suc (part_sum f (parts (row t r)))) ≡ min cap (size t r)
  capped_step r h f capped =
      let ps = parts (row t r) in
      ap (min cap) (one_plus (part_sum f ps))
      ∙ capped_sum t f (size t) r capped ps 1 (falls r h)
      ∙ ap (min cap) (sym (one_plus (part_sum (size t) ps)))
      ∙ ap (min cap) (sym (size_step t falls r h))

  -- the sizes of the rows below r, capped
  record Sizes (r : ℕ) (xs : List ℕ) : Type 0 where
    pub counted : length xs ≡ r
    pub capped : (k : ℕ) → k < r → get_or xs k 0 ≡ min cap (size t k)

  one_more : (r : ℕ) (xs : List ℕ) → r < rows t → Sizes r xs → Sizes (suc r) (xs ++ (capped_at t xs r ∷ []))
  unfolding capped_at
  one_more r xs h s = record {
    counted = omega (linear, length-append xs (capped_at t xs r ∷ []), s.counted);
    capped = λ k l. go k (ℕ_discrete k r) l;
  }
    where
      sum_is : capped_at t xs r ≡ min cap (size t r)
      sum_is = capped_step r h (λ k. get_or xs k 0) s.capped

      go : (k : ℕ) → Dec (k ≡ r) → k < suc r → get_or (xs ++ (capped_at t xs r ∷ [])) k 0 ≡ min cap (size t k)
      go k (yes e) l =
          get_or_at xs (capped_at t xs r) [] 0 k (s.counted ∙ sym e) ∙ sum_is
          ∙ ap (λ (a : ℕ). min cap (size t a)) (sym e)
      go k (no d) l =
          get_or-append xs (capped_at t xs r ∷ []) 0 k (omega (linear, s.counted)) ∙ s.capped k (omega linear)

  all_capped : (n r : ℕ) (xs : List ℕ) → n + r ≡ rows t → Sizes r xs → Sizes (rows t) (capped_from t n r xs)
  unfolding capped_from
  all_capped zero r xs e s = subst (λ (a : ℕ). Sizes a xs) (zero_plus e) s
    where
      zero_plus : 0 + r ≡ rows t → r ≡ rows t
      zero_plus e = omega linear
  all_capped (suc n) r xs e s =
      all_capped n (suc r) (xs ++ (capped_at t xs r ∷ [])) (omega linear) (one_more r xs (omega linear) s)

  -- the capped size of each row
  capped_row : (r : ℕ) → r < rows t → get_or (capped_from t (rows t) 0 []) r 0 ≡ min cap (size t r)
  capped_row r h =
      (all_capped (rows t) 0 [] (omega linear) (record { counted = refl; capped = λ k l. absurd (omega linear) })).capped r h

  pub capped_exact : 0 < rows t → capped_total t ≡ min cap (length (origins t))
  unfolding capped_total
  capped_exact h = capped_row (rows t - 1) (omega linear) ∙ ap (min cap) (sym (total_is t falls))

-- ---- 14

-- "when the result passes 2,048 rows or either buffer", where it has n rows
abbrev pub PassesRoom : ℕ → ℕ → ℕ → Type 0
PassesRoom table_room origins_room n = (2048 < n) ⊎ ((table_room < 4 * n) ⊎ (origins_room < n))

abbrev pub TooLong : List ℤ → ℕ → ℕ → Type 0
TooLong t table_room origins_room = PassesRoom table_room origins_room (length (origins t))

module _ (table_room origins_room : ℕ) where
  tests : (n : ℕ) → (too_long table_room origins_room n ≡ true) ↔ PassesRoom table_room origins_room n
  unfolding too_long
  tests n =
      Iff.trans (or_iff (ltb 2048 n) (ltb table_room (4 * n) || ltb origins_room n))
      (either (less 2048 n)
      (Iff.trans (or_iff (ltb table_room (4 * n)) (ltb origins_room n))
      (either (less table_room (4 * n)) (less origins_room n))))
    where
      less : (a b : ℕ) → (ltb a b ≡ true) ↔ (a < b)
      less a b = (ltb-true a b, lt-ltb a b)

  -- the capped number tells as much as the number
  told : (n : ℕ) → PassesRoom table_room origins_room (min cap n) ↔ PassesRoom table_room origins_room n
  told n = (
    ⊎_elim (λ h. inl (omega linear)) (⊎_elim (λ h. inr (inl (omega linear))) (λ h. inr (inr (omega linear)))),
    ⊎_elim (λ h. inl (omega linear)) (⊎_elim (λ h. few (λ l. inr (inl (omega linear)))) (λ h. few (λ l. inr (inr (omega linear))))),
  )
    where
      few : (n ≤ 2048 → PassesRoom table_room origins_room (min cap n))
          → PassesRoom table_room origins_room (min cap n)
      few f = by_order n 2048 f (λ l. inl (omega linear))

  pub too_long_iff : (t : List ℤ) → Falls t → 0 < rows t
      → (too_long table_room origins_room (capped_total t) ≡ true) ↔ TooLong t table_room origins_room
  too_long_iff t falls h =
      subst (λ (n : ℕ). (too_long table_room origins_room n ≡ true) ↔ TooLong t table_room origins_room)
      (sym (capped_exact t falls h))
      (Iff.trans (tests (min cap (length (origins t)))) (told (length (origins t))))
