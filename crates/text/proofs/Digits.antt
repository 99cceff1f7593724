-- The decimal text of a number ends with its last digit, and before that has the text of the number without it. Assumes nothing.
use Prim.Native.Nat.{ℕ, ◌+◌, ◌/◌, ◌%◌, ◌≤◌, ◌<◌}
use mathlib.Core.Path.{◌≡◌, ◌∙◌, ap}
use mathlib.Core.List.{[], ◌∷◌, ◌++◌}
use native.Mathlib.Omega.{arith}
use Rattle.text.specs.Decimal.{decimal, decimal_low, decimal_high}

-- d is the last digit
module _ (n d : ℕ) (last : d ≡ 48 + n % 10) where
  pub one_digit : n < 10 → decimal n ≡ d ∷ []
  one_digit h = decimal_low n h ∙ ap (λ k. k ∷ []) (omega arith)

  pub more_digits : 10 ≤ n → decimal n ≡ decimal (n / 10) ++ (d ∷ [])
  more_digits h = rw last (decimal_high n h)
