-- The text of a signed word by its sign. Assumes nothing.
use Prim.Native.Nat.{ℕ}
use mathlib.Core.Path.{◌≡◌, refl}
use mathlib.Core.List.{◌∷◌}
use mathlib.Core.Bool.{true, false}
use lib.IntN.{ℤ, pos, nat_abs}
use lib.Signed.{lt_z}
use Rattle.text.specs.Decimal.{decimal}
use Rattle.text.proofs.Signs.{negative_is, other_is}
use Rattle.printer.specs.Text.{signed_decimal}

-- z is the word w as a local holds it, and n the number in it
module _ {z w : ℤ} {n : ℕ} (same : z ≡ w) (size : n ≡ nat_abs z) where
  pub negative_word : lt_z z (pos 0) ≡ true → signed_decimal w ≡ 45 ∷ decimal n
  unfolding signed_decimal
  negative_word h = negative_is signed_decimal (λ m. 45 ∷ decimal m) decimal (λ m. refl) (λ m. refl) same size h

  pub other_word : lt_z z (pos 0) ≡ false → signed_decimal w ≡ decimal n
  unfolding signed_decimal
  other_word h = other_is signed_decimal (λ m. 45 ∷ decimal m) decimal (λ m. refl) (λ m. refl) same size h
