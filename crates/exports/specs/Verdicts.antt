-- A verdict as two numbers, both 0 for an accepted table; computed at one of each. Assumes nothing.
use Rattle.std.specs.Prelude.{ℕ, ◌≡◌, refl}
use Rattle.script.specs.Refusals.{Verdict, accepted, refused}

abbrev pub number_of : Verdict → ℕ
number_of accepted = 0
number_of (refused n r) = n

abbrev pub row_of : Verdict → ℕ
row_of accepted = 0
row_of (refused n r) = r

told : (number_of (refused 9 4) ≡ 9) × ((row_of (refused 9 4) ≡ 4) × ((number_of accepted ≡ 0) × (row_of accepted ≡ 0)))
told = (refl, (refl, (refl, refl)))
