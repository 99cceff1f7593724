-- The size of a row, from those of its parts (`size_step`); the number of new rows is that of the last one
-- (`total_is`).
-- Argument: links fall, so every bound on the depth above a row gives the same copies (`steady`). Assumes nothing.
use Prim.Native.Nat.{ℕ, zero, suc, ◌-◌, ◌<◌}
use Rattle.std.specs.Prelude.{◌≡◌, ℤ, T, ltb}
use Rattle.std.proofs.Math.Path.{refl, ap}
use mathlib.Core.List.{List, [], ◌∷◌, ◌++◌}
use native.Mathlib.Omega.{arith as linear}
use Rattle.std.proofs.Common.{ltb→lt}
use Rattle.std.proofs.Math.ListN.{length, length-append}
use Rattle.script.specs.Rows.{Part, parts, rows, row}
use Rattle.script.specs.Refusals.{all_below}
use Rattle.theorems.specs.Truths.{both}
use Rattle.mending.specs.Copies.{each, part_sum, copies, origins, size}
use Rattle.mending.specs.Falling.{Falls}

module _ (t : List ℤ) (falls : Falls t) where
  each_same : (C D : ℕ → List ℕ) (r : ℕ) (ps : List Part) → T (all_below t r ps) → ((k : ℕ) → k < r → C k ≡ D k)
      → each C ps ≡ each D ps
  unfolding each
  each_same C D r [] h f = refl
  each_same C D r (p ∷ ps) h f =
      let b = both (ltb p.at r) (all_below t r ps) h in
      rw (f p.at (ltb→lt p.at r b.0), each_same C D r ps b.1 f)

  -- every bound above a row gives the same copies
  steady : (n m r : ℕ) → r < n → r < m → r < rows t → copies t n r ≡ copies t m r
  unfolding copies
  steady zero m r h i j = absurd (omega linear)
  steady (suc n) zero r h i j = absurd (omega linear)
  steady (suc n) (suc m) r h i j =
      ap (λ (l : List ℕ). l ++ (r ∷ []))
      (each_same (copies t n) (copies t m) r (parts (row t r)) (falls r j)
      (λ k l. steady n m k (omega linear) (omega linear) (omega linear)))

  each_length : (C : ℕ → List ℕ) (ps : List Part) → length (each C ps) ≡ part_sum (λ k. length (C k)) ps
  unfolding each part_sum
  each_length C [] = refl
  each_length C (p ∷ ps) = omega (linear, length-append (C p.at) (each C ps), each_length C ps)

  copies_at : (r : ℕ) → r < rows t → copies t (rows t) r ≡ each (copies t (rows t)) (parts (row t r)) ++ (r ∷ [])
  unfolding copies
  copies_at r h = steady (rows t) (suc (rows t)) r h (omega linear) h

  -- one more than the sizes of the parts together
  pub size_step : (r : ℕ) → r < rows t → size t r ≡ suc (part_sum (size t) (parts (row t r)))
  unfolding size
  size_step r h =
      let C = copies t (rows t) in
      let a = ap length (copies_at r h) in
      let b = length-append (each C (parts (row t r))) (r ∷ []) in
      let c = each_length C (parts (row t r)) in
      omega linear

  -- the number of new rows
  pub total_is : length (origins t) ≡ size t (rows t - 1)
  unfolding origins size
  total_is = refl
