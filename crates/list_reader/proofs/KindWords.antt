-- A word that is compared with a kind, signed as it stands: what the comparisons tell of the number in its field. Assumes
-- nothing.
use Prim.Native.Nat.{ℕ, suc, ◌≤◌, ◌<◌}
use native.Mathlib.Omega.{arith as linear}
use mathlib.Core.Path.{◌≡◌}
use mathlib.Core.Bool.{true, false}
use lib.IntN.{ℤ, pos, negsuc}
use lib.Signed.{lt_z}
use borrow.Author.Tests.{ltb-true, ltb-false}
use mir.Syntax.{w32}
use mir.Val.{of_z}
use Rattle.script.specs.Rows.{field_number}

pub at_least : (z : ℤ) (a : ℕ) → lt_z z (pos a) ≡ false → a ≤ field_number z
at_least (pos n) a h = ltb-false n a h
at_least (negsuc n) a h = let x : ◌≡◌ {A = ℕ} 0 1 = cc in absurd (omega linear)

pub less_than : (z : ℤ) (a b : ℕ) → lt_z z (pos a) ≡ false → lt_z z (pos b) ≡ true → field_number z < b
less_than (pos n) a b h g = ltb-true n b g
less_than (negsuc n) a b h g = let x : ◌≡◌ {A = ℕ} 0 1 = cc in absurd (omega linear)

pub other : (z : ℤ) (n : ℕ) → n < 4294967295 → (of_z w32 z ≡ n → ⊥) → n ≤ field_number z → suc n ≤ field_number z
other (pos m) n l f h = omega linear
other (negsuc m) n l f h = l

-- what is below a range of kinds, or negative, is none of them
pub out_below : (z : ℤ) (a b : ℕ) → b ≤ 4294967295 → lt_z z (pos a) ≡ true → a ≤ field_number z → b ≤ field_number z
out_below (pos n) a b l h k = absurd (let i : n < a = ltb-true n a h in omega linear)
out_below (negsuc n) a b l h k = l
