-- A law for each kind of statement, and for what is none, with what was worked out for it: which step is tried, and what it answers
-- and leaves. Assumes nothing.
use Rattle.std.specs.Prelude.{ℕ, ◌+◌, ◌≤◌, ◌<◌, ◌≡◌, refl, Bool, true, false, cond, List, ◌∷◌, ℤ, length, set, Ok, Err}
use Rattle.std.proofs.Common.{◌∙◌, arith as linear, length-set}
use Rattle.script.specs.declared.StatementRow.TheVariants.{Skip, Assign, Sequence, If, While, Assert}
use Rattle.script.specs.declared.Row.{Row}
use Rattle.script.specs.Rows.{field_number, row, rows, word}
use Rattle.script.specs.Trees.{expr_at, formula_at}
use Rattle.theorems.specs.Accepted.{passed}
use Rattle.stepping.specs.Values.{mode_64, Worked, got, stop, Fault, work, judge}
use Rattle.stepping.specs.Machine.{hold, Stepped, on, untrue, carry, done, act, if_statement, pass, state_of}
use Rattle.stepping.specs.Places.{past}
use Rattle.stepper.specs.declared.steps.Failure.TheVariants.{Untrue}
use Rattle.stepper.specs.Kinds.{Numbered, row_numbered}
use Rattle.stepper.specs.Parts.{HasKind, IfParts, assign_row, assert_row, if_row, while_row, while_parts}
use Rattle.stepper.specs.Steps.{Stage, Tried, failure_of, halted, rest_of, stepped, step_is, room_one, room_two, went_on, went_one, went_two, stopped}
use Rattle.stepper.specs.Taking.{Taken}

-- either side of an if is a row of the table
pub side_small : {t : List ℤ} {r s : ℕ} → IfParts t r → (c : Bool) → s ≡ cond c (field_number (word t r 2)) (field_number (word t r 3)) → s < 2048
side_small p true e = let h = p.true_side in omega linear
side_small p false e = let h = p.false_side in omega linear

-- a pass of the loop at row `at`
abbrev pub passing : List ℤ → List ℕ → ℕ → List ℤ → List ℤ → ℕ → Stepped
passing t words height vars marks at =
    pass mode_64 t (rest_of t words height) vars marks at (field_number (word t at 3)) (field_number (word t (field_number (word t at 2)) 2))

-- ---- what is no statement, or one that adds nothing and works nothing out

abbrev Idle : ℕ → Type 0
Idle n = (((Unit {0} × (n ≡ 33 → ⊥)) × (n ≡ 35 → ⊥)) × (n ≡ 36 → ⊥)) × (n ≡ 38 → ⊥)

idle_done : (t : List ℤ) (rest : List ℕ) (vars marks : List ℤ) (at n : ℕ) (w : Row) → Numbered n w → Idle n
    → if_statement (done mode_64 t rest vars marks) (act mode_64 t rest vars marks at) w ≡ done mode_64 t rest vars marks
idle_done t rest vars marks at n (Row.Statement Skip) h i = refl
idle_done t rest vars marks at n (Row.Statement (Sequence a b)) h i = refl
idle_done t rest vars marks at n (Row.Statement (Assign v e)) h i = absurd (i.0.0.0.1 h)
idle_done t rest vars marks at n (Row.Statement (If b x y)) h i = absurd (i.0.0.1 h)
idle_done t rest vars marks at n (Row.Statement (While b j x)) h i = absurd (i.0.1 h)
idle_done t rest vars marks at n (Row.Statement (Assert f)) h i = absurd (i.1 h)
idle_done t rest vars marks at n (Row.Expression w) h i = refl
idle_done t rest vars marks at n (Row.Formula w) h i = refl
idle_done t rest vars marks at n (Row.Note j v) h i = refl
idle_done t rest vars marks at n (Row.Script p s q) h i = refl
idle_done t rest vars marks at n Row.Unknown h i = refl

module _ (t : List ℤ) (words : List ℕ) (height : ℕ) (vars marks : List ℤ) (at : ℕ) (S : Stage t words height vars marks at) where
  abbrev rest : List ℕ
  rest = rest_of t words height

  pub idle : {n : ℕ} → n ≡ field_number (word t at 0) → Idle n → stepped t words height vars marks ≡ done mode_64 t rest vars marks
  idle {n} read i = step_is _ _ _ _ _ _ S refl ∙ idle_done t rest vars marks at n (row t at) (row_numbered t at read) i

  pub beyond : rows t ≤ at → stepped t words height vars marks ≡ done mode_64 t rest vars marks
  beyond h = let f = (passed t S.ready.checked).fours in step_is _ _ _ _ _ _ S (past t at (omega linear))

  -- an assignment, with its value
  module _ (k : HasKind t at 33) {v e : ℕ} (hv : v ≡ field_number (word t at 1)) (he : e ≡ field_number (word t at 2)) {x : Worked ℤ}
      (hx : x ≡ work mode_64 (state_of vars marks) true (expr_at t e)) where
    assign_step : stepped t words height vars marks ≡ carry x (λ z. on (hold rest (set vars v z) marks))
    assign_step = step_is _ _ _ _ _ _ S (assign_row t at k) ∙ rw (← hv, ← he, ← hx)

    pub assign_done : {z : ℤ} {words' : List ℕ} {left : ℕ} → x ≡ got z → Taken t words height words' left
        → Tried t words height vars marks words' (set vars v z) marks (Ok left)
    assign_done {z} g T = went_on _ _ _ _ _ _ S T (length-set vars v z) refl (assign_step ∙ rw g)

    pub assign_stopped : {y : Fault} → x ≡ stop y → Tried t words height vars marks words vars marks (Err (failure_of y))
    assign_stopped g = stopped _ _ _ _ _ _ S _ assign_step g

  -- an assertion, with its truth
  module _ (k : HasKind t at 38) {f : ℕ} (hf : f ≡ field_number (word t at 1)) {x : Worked Bool}
      (hx : x ≡ judge mode_64 (state_of vars marks) false (formula_at t f)) where
    assert_step : stepped t words height vars marks ≡ carry x (λ b. cond b (done mode_64 t rest vars marks) untrue)
    assert_step = step_is _ _ _ _ _ _ S (assert_row t at k) ∙ rw (← hf, ← hx)

    pub assert_done : {words' : List ℕ} {left : ℕ} → x ≡ got true → Taken t words height words' left
        → Tried t words height vars marks words' vars marks (Ok left)
    assert_done g T = went_on _ _ _ _ _ _ S T refl refl (assert_step ∙ rw g)

    pub assert_untrue : x ≡ got false → Tried t words height vars marks words vars marks (Err Untrue)
    assert_untrue g = halted {e = Untrue} (rw (assert_step, g) refl) refl refl refl

    pub assert_stopped : {y : Fault} → x ≡ stop y → Tried t words height vars marks words vars marks (Err (failure_of y))
    assert_stopped g = stopped _ _ _ _ _ _ S _ assert_step g

  -- an if, with the truth of its guard
  module _ (k : HasKind t at 35) {b : ℕ} (hb : b ≡ field_number (word t at 1)) {x : Worked Bool}
      (hx : x ≡ judge mode_64 (state_of vars marks) true (formula_at t b)) where
    if_step : stepped t words height vars marks
        ≡ carry x (λ c. on (hold (cond c (field_number (word t at 2)) (field_number (word t at 3)) ∷ rest) vars marks))
    if_step = step_is _ _ _ _ _ _ S (if_row t at k) ∙ rw (← hb, ← hx)

    module _ {c : Bool} (g : x ≡ got c) {side : ℕ} (hs : side ≡ cond c (field_number (word t at 2)) (field_number (word t at 3)))
        {words' : List ℕ} {left : ℕ} (T : Taken t words height words' left) where
      side_next : stepped t words height vars marks ≡ on (hold (side ∷ rest) vars marks)
      side_next = if_step ∙ rw (g, ← hs)

      pub if_room : left < length words'
      if_room = room_one _ _ _ _ _ _ S T side_next

      pub if_done : Tried t words height vars marks (set words' left side) vars marks (Ok (left + 1))
      if_done = went_one _ _ _ _ _ _ S T refl refl side_next

    pub if_stopped : {y : Fault} → x ≡ stop y → Tried t words height vars marks words vars marks (Err (failure_of y))
    if_stopped g = stopped _ _ _ _ _ _ S _ if_step g

  -- a while, with the truth of its guard
  module _ (k : HasKind t at 36) {b : ℕ} (hb : b ≡ field_number (word t at 1)) {x : Worked Bool}
      (hx : x ≡ judge mode_64 (state_of vars marks) true (formula_at t b)) where
    while_step : stepped t words height vars marks ≡ carry x (λ c. cond c (passing t words height vars marks at) (done mode_64 t rest vars marks))
    while_step = step_is _ _ _ _ _ _ S (while_row t at k) ∙ rw (← hb, ← hx, (while_parts t S.ready.checked at k).note)

    pub while_passes : x ≡ got true → stepped t words height vars marks ≡ passing t words height vars marks at
    while_passes g = while_step ∙ rw g

    pub while_done : {words' : List ℕ} {left : ℕ} → x ≡ got false → Taken t words height words' left
        → Tried t words height vars marks words' vars marks (Ok left)
    while_done g T = went_on _ _ _ _ _ _ S T refl refl (while_step ∙ rw g)

    pub while_stopped : {y : Fault} → x ≡ stop y → Tried t words height vars marks words vars marks (Err (failure_of y))
    while_stopped g = stopped _ _ _ _ _ _ S _ while_step g

  -- a pass of it, with the value of its variant
  module _ (p : stepped t words height vars marks ≡ passing t words height vars marks at) {i q v : ℕ} (hi : i ≡ field_number (word t at 2))
      (hq : q ≡ field_number (word t at 3)) (hv : v ≡ field_number (word t i 2)) {x : Worked ℤ}
      (hx : x ≡ work mode_64 (state_of vars marks) false (expr_at t v)) where
    pass_step : stepped t words height vars marks ≡ carry x (λ z. on (hold (q ∷ at ∷ rest) vars (set marks at z)))
    pass_step = p ∙ rw (← hq, ← hi, ← hv, ← hx)

    module _ {z : ℤ} (g : x ≡ got z) {words' : List ℕ} {left : ℕ} (T : Taken t words height words' left) where
      body_next : stepped t words height vars marks ≡ on (hold (q ∷ at ∷ rest) vars (set marks at z))
      body_next = pass_step ∙ rw g

      pub pass_room : left + 1 < length words'
      pass_room = room_two _ _ _ _ _ _ S T body_next

      pub pass_done : Tried t words height vars marks (set (set words' left at) (left + 1) q) vars (set marks at z) (Ok (left + 2))
      pass_done = went_two _ _ _ _ _ _ S T refl (length-set marks at z) body_next

    pub pass_stopped : {y : Fault} → x ≡ stop y → Tried t words height vars marks words vars marks (Err (failure_of y))
    pass_stopped g = stopped _ _ _ _ _ _ S _ pass_step g
