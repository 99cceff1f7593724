-- The number in a signed word, without its sign: what a text says by the sign of a word, it says by the number (`negative_is`,
-- `other_is`). Assumes nothing.
use Prim.Native.Nat.{ℕ, suc}
use mathlib.Core.Path.{◌≡◌, sym}
use mathlib.Core.Bool.{true, false, false≢true}
use native.Mathlib.Omega.{arith}
use lib.IntN.{ℤ, pos, negsuc, nat_abs}
use lib.Signed.{lt_z}
use borrow.Author.Tests.{ltb-true}

-- z is the word w as a local holds it, and n the number in it; f is told by g of a negative word, by h of another
module _ {A : Type 0} (f : ℤ → A) (g h : ℕ → A) (below : (n : ℕ) → f (negsuc n) ≡ g (suc n)) (other : (n : ℕ) → f (pos n) ≡ h n)
    {z w : ℤ} {n : ℕ} (same : z ≡ w) (size : n ≡ nat_abs z) where
  pub negative_is : lt_z z (pos 0) ≡ true → f w ≡ g n
  negative_is e = rw (← same, size) (of_sign z e)
    where
      of_sign : (z : ℤ) → lt_z z (pos 0) ≡ true → f z ≡ g (nat_abs z)
      of_sign (pos m) i = absurd (omega (arith, ltb-true m 0 i))
      of_sign (negsuc m) i = below m

  pub other_is : lt_z z (pos 0) ≡ false → f w ≡ h n
  other_is e = rw (← same, size) (of_sign z e)
    where
      of_sign : (z : ℤ) → lt_z z (pos 0) ≡ false → f z ≡ h (nat_abs z)
      of_sign (pos m) i = other m
      of_sign (negsuc m) i = absurd (false≢true (sym i))
