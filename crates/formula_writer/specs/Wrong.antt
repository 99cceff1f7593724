-- What is no writing: a word left out, a place not moved on, a word written past the first free one, a full list that says it
-- had room; what is not the latest assignment to a variable, nor its row; what is no entry of a path. Assumes nothing.
use Rattle.std.specs.Prelude.{◌≡◌, refl, List, [], ◌∷◌, ℤ, pos}
use Rattle.std.proofs.Common.{arith as linear}
use Rattle.script.specs.Laws.{pos_inj}
use Rattle.theorems.specs.Writing.{Wrote, fitted, stopped}
use Rattle.formula_writer.specs.Paths.{entry, passed_row}
use Rattle.formula_writer.specs.Search.{Latest}

word_left_out : Wrote (pos 0 ∷ []) 0 (pos 7 ∷ []) 1 (pos 0 ∷ []) → ⊥
word_left_out (fitted h n s) = let e : pos 0 ≡ pos 7 = cc in let i = pos_inj e in omega linear
word_left_out (stopped h n s) = omega linear

place_not_moved : Wrote (pos 0 ∷ []) 0 (pos 7 ∷ []) 0 (pos 7 ∷ []) → ⊥
place_not_moved (fitted h n s) = omega linear
place_not_moved (stopped h n s) = omega linear

another_word_changed : Wrote (pos 0 ∷ pos 0 ∷ []) 0 (pos 7 ∷ []) 1 (pos 7 ∷ pos 7 ∷ []) → ⊥
another_word_changed (fitted h n s) = let e : pos 7 ≡ pos 0 = cc in let i = pos_inj e in omega linear
another_word_changed (stopped h n s) = omega linear

room_claimed : Wrote (pos 0 ∷ []) 1 (pos 7 ∷ []) 1 (pos 0 ∷ []) → ⊥
room_claimed (fitted h n s) = omega linear
room_claimed (stopped h n s) = omega linear

-- ---- v0, v1 and v0 again are assigned, at rows 5, 6 and 7

abbrev passed : List ℤ
passed = pos 5 ∷ pos 2054 ∷ pos 7 ∷ []

earlier_taken : Latest passed 0 3 1 → ⊥
earlier_taken f = f.none_after.other 2 (omega linear) (omega linear) refl

none_claimed : Latest passed 1 3 0 → ⊥
none_claimed f = f.none_after.other 1 (omega linear) (omega linear) refl

another_variable : Latest passed 1 3 3 → ⊥
another_variable f = let e = f.there 2 refl in omega linear

variable_left_in : passed_row passed 1 ≡ 2054 → ⊥
variable_left_in e = omega linear

variable_for_row : passed_row passed 1 ≡ 1 → ⊥
variable_for_row e = omega linear

-- ---- v3 is assigned the value at row 9, at row 1

abbrev assigned : List ℤ
assigned = pos 16 ∷ pos 0 ∷ pos 0 ∷ pos 0 ∷ pos 33 ∷ pos 3 ∷ pos 9 ∷ pos 0 ∷ []

variable_lost : entry assigned 1 ≡ pos 1 → ⊥
variable_lost e = let i = pos_inj e in omega linear

row_lost : entry assigned 1 ≡ pos 6144 → ⊥
row_lost e = let i = pos_inj e in omega linear

value_entered : entry assigned 1 ≡ pos 18433 → ⊥
value_entered e = let i = pos_inj e in omega linear
