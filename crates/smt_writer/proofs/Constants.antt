-- The text of a constant by its sign. Assumes nothing.
use Prim.Native.Nat.{ℕ}
use mathlib.Core.Path.{◌≡◌, refl}
use mathlib.Core.Bool.{true, false}
use mathlib.Core.List.{◌++◌}
use lib.IntN.{ℤ, pos, nat_abs}
use lib.Signed.{lt_z}
use Rattle.text.specs.Ascii.{bytes}
use Rattle.text.specs.Decimal.{decimal}
use Rattle.text.proofs.Signs.{negative_is, other_is}
use Rattle.smt.specs.Pieces.{constant_text}

-- z is the constant w as a local holds it, and n the number in it
module _ {z w : ℤ} {n : ℕ} (same : z ≡ w) (size : n ≡ nat_abs z) where
  pub negative_constant : lt_z z (pos 0) ≡ true → constant_text w ≡ bytes "(- " ++ (decimal n ++ bytes ")")
  unfolding constant_text
  negative_constant h = negative_is constant_text (λ m. bytes "(- " ++ (decimal m ++ bytes ")")) decimal (λ m. refl) (λ m. refl) same size h

  pub other_constant : lt_z z (pos 0) ≡ false → constant_text w ≡ decimal n
  unfolding constant_text
  other_constant h = other_is constant_text (λ m. bytes "(- " ++ (decimal m ++ bytes ")")) decimal (λ m. refl) (λ m. refl) same size h
