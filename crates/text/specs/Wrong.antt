-- What the functions of this crate do not give: wrong answers, each refuted at one input. Assumes nothing.
use Rattle.std.specs.Prelude.{ℕ, ◌≡◌, refl, List, [], ◌∷◌, nat_abs, negsuc, replicate}
use Rattle.std.proofs.Common.{sym, ◌∙◌, arith as linear}
use Rattle.theorems.specs.Writing.{Wrote, fitted, stopped}
use Rattle.text.specs.Decimal.{digits, decimal}

first_byte : {a b : ℕ} {cs ds : List ℕ} → a ∷ cs ≡ b ∷ ds → a ≡ b
first_byte e = cc

-- ---- one byte

byte_left_out : Wrote {A = ℕ} (0 ∷ []) 0 (65 ∷ []) 1 (0 ∷ []) → ⊥
byte_left_out (fitted h n s) = let e = first_byte s in omega linear
byte_left_out (stopped h n s) = omega linear

room_claimed : Wrote {A = ℕ} (0 ∷ []) 1 (65 ∷ []) 1 (0 ∷ []) → ⊥
room_claimed (fitted h n s) = omega linear
room_claimed (stopped h n s) = omega linear

-- ---- one byte a number of times

once_too_few : Wrote {A = ℕ} (0 ∷ 0 ∷ []) 0 (replicate 2 41) 1 (41 ∷ 0 ∷ []) → ⊥
once_too_few (fitted h n s) = omega linear
once_too_few (stopped h n s) = omega linear

once_too_many : Wrote {A = ℕ} (0 ∷ 0 ∷ []) 0 (replicate 1 41) 2 (41 ∷ 41 ∷ []) → ⊥
once_too_many (fitted h n s) = omega linear
once_too_many (stopped h n s) = omega linear

-- ---- a run cleared

byte_kept : 7 ∷ [] ≡ replicate {A = ℕ} 1 0 → ⊥
byte_kept e = let z = first_byte e in omega linear

cut_short : ◌≡◌ {A = List ℕ} [] (replicate 1 0) → ⊥
cut_short e = let z : ◌≡◌ {A = ℕ} 0 1 = cc in omega linear

-- ---- a number, and a word without its sign

ten : decimal 10 ≡ 49 ∷ 48 ∷ []
unfolding decimal digits
ten = refl

digits_reversed : decimal 10 ≡ 48 ∷ 49 ∷ [] → ⊥
digits_reversed e = let z = first_byte (sym ten ∙ e) in omega linear

sign_as_zero : nat_abs (negsuc 4) ≡ 0 → ⊥
sign_as_zero e = omega linear

-- the least word of 32 bits
least_one_off : nat_abs (negsuc 2147483647) ≡ 2147483647 → ⊥
least_one_off e = omega linear
