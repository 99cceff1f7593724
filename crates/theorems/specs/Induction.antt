-- Induction on row numbers: what holds of a row where it holds of every lower one holds of every row. Assumes nothing.
use Rattle.std.specs.Prelude.{ℕ, zero, suc, ◌<◌}
use Rattle.std.proofs.Common.{arith as linear}

module _ (P : ℕ → Type 0) (step : (r : ℕ) → ((k : ℕ) → k < r → P k) → P r) where
  below_bound : (n r : ℕ) → r < n → P r
  below_bound zero r h = absurd (omega linear)
  below_bound (suc n) r h = step r (λ k l. below_bound n k (omega linear))

  pub by_lower : (r : ℕ) → P r
  by_lower r = below_bound (suc r) r (omega linear)
