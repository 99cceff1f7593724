-- A step tried: what it answers, and what it leaves in the lent words, are those of `machine_step` (`Tried`). A law for each way that a
-- step goes: the statement adds nothing, one row or two (`went_on`, `went_one`, `went_two`), or a value was not worked out and nothing is
-- written (`stopped`). `Statements` has one for each kind. Assumes nothing.
use Rattle.std.specs.Prelude.{ℕ, ◌+◌, ◌-◌, ◌^◌, ◌≤◌, ◌<◌, ◌≡◌, refl, List, ◌∷◌, ℤ, length, set, Result, Ok, Err}
use Rattle.std.proofs.Math.Path.{sym}
use Rattle.std.proofs.Common.{ap, subst, ◌∙◌, arith as linear, length-set, to_z-of_z, to_z, of_z}
use Rattle.std.specs.Int.Signed.{mag}
use Rattle.std.specs.Int.{w64}
use Rattle.script.specs.declared.Row.{Row}
use Rattle.script.specs.Rows.{row, rows, variables}
use Rattle.theorems.specs.Accepted.{passed}
use Rattle.stepping.specs.Values.{mode_64, Worked, stop, Fault, overflow, by_zero, fault_number}
use Rattle.stepping.specs.Machine.{Held, hold, Stepped, on, faulty, untrue, carry, done, act, if_statement, machine_step, mark_values, next}
use Rattle.stepping.specs.Heights.{Roomy, roomy_length, step_roomy}
use Rattle.evaluation.specs.Worked.{Lent}
use Rattle.stepper.specs.declared.steps.Failure.{Failure}
use Rattle.stepper.specs.declared.steps.Failure.TheVariants.{Overflow, Untrue, ByZero}
use Rattle.stepper.specs.DueRows.{due_row, next_row}
use Rattle.stepper.specs.Stack.{held_in, top, Zeros, held_length, pushed, zeros_pushed, top_first}
use Rattle.stepper.specs.Taking.{Ready, Taken}

-- a 64-bit value that a local holds as bits
pub back_64 : {z : ℤ} → mag z < 2 ^ 63 → to_z w64 (of_z w64 z) ≡ z
back_64 h = to_z-of_z {w = w64} (record { sfits = h })

-- a step can be tried, of the statement at row `at`
pub record Stage (t : List ℤ) (words : List ℕ) (height : ℕ) (vars marks : List ℤ) (at : ℕ) : Type 0 where
  pub ready : Ready t words height
  pub all_variables : variables ≤ length vars
  pub all_marks : mark_values ≤ length marks
  pub due : at ≡ due_row t (top words height)

-- the step that is tried
abbrev pub stepped : List ℤ → List ℕ → ℕ → List ℤ → List ℤ → Stepped
stepped t words height vars marks = machine_step mode_64 t (top words height) (held_in words (height - 1)) vars marks

-- what is to do after the statement due
abbrev pub rest_of : List ℤ → List ℕ → ℕ → List ℕ
rest_of t words height = (next t (top words height) (held_in words (height - 1))).rest

-- what a step answers that fails, and its number
abbrev pub failure_of : Fault → Failure
failure_of overflow = Overflow
failure_of by_zero = ByZero

abbrev pub failure_number : Failure → ℕ
failure_number Overflow = 50
failure_number Untrue = 52
failure_number ByZero = 53

fault_is : (x : Fault) → failure_number (failure_of x) ≡ fault_number x
fault_is overflow = refl
fault_is by_zero = refl

-- a step that fails with this number
abbrev pub Halts : ℕ → Stepped → Type 0
Halts n (on h) = ⊥
Halts n (faulty x) = n ≡ fault_number x
Halts n untrue = n ≡ 52

pub data Tried (t : List ℤ) (words : List ℕ) (height : ℕ) (vars marks : List ℤ) (words' : List ℕ) (vars' marks' : List ℤ) : Result ℕ Failure → Type 0 where
  went : {left : ℕ} → stepped t words height vars marks ≡ on (hold (held_in words' left) vars' marks') → Zeros words' left
      → length words' ≡ length words → length vars' ≡ length vars → length marks' ≡ length marks
      → Tried t words height vars marks words' vars' marks' (Ok left)
  halted : {e : Failure} → Halts (failure_number e) (stepped t words height vars marks) → words' ≡ words → vars' ≡ vars → marks' ≡ marks
      → Tried t words height vars marks words' vars' marks' (Err e)

-- as many words as before
pub record Kept (words words' : List ℕ) (vars vars' marks marks' : List ℤ) : Type 0 where
  pub long : length words' ≡ length words
  pub all_vars : length vars' ≡ length vars
  pub all_marks : length marks' ≡ length marks

pub tried_kept : {t : List ℤ} {words words' : List ℕ} {height : ℕ} {vars vars' marks marks' : List ℤ} {o : Result ℕ Failure}
    → Tried t words height vars marks words' vars' marks' o → Kept words words' vars vars' marks marks'
tried_kept (went e z lw lv lm) = record { long = lw; all_vars = lv; all_marks = lm }
tried_kept (halted i ew ev em) = record { long = ap length ew; all_vars = ap length ev; all_marks = ap length em }

pub tried_as : {t : List ℤ} {words words' : List ℕ} {height : ℕ} {vars vars' marks marks' : List ℤ} {o o' : Result ℕ Failure} → o ≡ o'
    → Tried t words height vars marks words' vars' marks' o → Tried t words height vars marks words' vars' marks' o'
tried_as e T = rw e at T

module _ (t : List ℤ) (words : List ℕ) (height : ℕ) (vars marks : List ℤ) (at : ℕ) (S : Stage t words height vars marks at) where
  abbrev rest : List ℕ
  rest = rest_of t words height

  pub lent : {r : ℕ} → r < rows t → Lent t vars marks r
  lent i = record {
    accepted = S.ready.checked;
    inside = i;
    all_variables = S.all_variables;
    all_marks = S.all_marks;
  }

  pub step_is : {w : Row} → row t at ≡ w
      → stepped t words height vars marks ≡ if_statement (done mode_64 t rest vars marks) (act mode_64 t rest vars marks at) w
  unfolding machine_step
  step_is {w} e =
      by (next t (top words height) (held_in words (height - 1))).at (next_row t (top words height) (held_in words (height - 1)) ∙ sym S.due)
    where
      by : (k : ℕ) → k ≡ at
          → if_statement (done mode_64 t rest vars marks) (act mode_64 t rest vars marks k) (row t k)
          ≡ if_statement (done mode_64 t rest vars marks) (act mode_64 t rest vars marks at) w
      by k i = rw (i, e)

  -- a whole step leaves no more than fits
  room : {h : Held} → stepped t words height vars marks ≡ on h → length h.stack ≤ length words
  room {h} e =
      let R = S.ready in
      roomy_length t (length words) h.stack
      (step_roomy t (passed t R.checked) (length words) mode_64 (top words height) (held_in words (height - 1)) vars marks e
      (subst (Roomy t (length words)) (top_first words height R.zeros.inside R.high) R.roomy))

  -- ---- a whole step

  module _ {words' : List ℕ} {left : ℕ} (T : Taken t words height words' left) where
    left_is : length rest ≡ left
    left_is = sym (ap length T.rest) ∙ held_length words' left T.zeros.inside

    pub room_one : {r : ℕ} {vars' marks' : List ℤ} → stepped t words height vars marks ≡ on (hold (r ∷ rest) vars' marks') → left < length words'
    room_one e = let l = room e in let a = left_is in let b = T.long in omega linear

    pub room_two : {r q : ℕ} {vars' marks' : List ℤ} → stepped t words height vars marks ≡ on (hold (q ∷ r ∷ rest) vars' marks')
        → left + 1 < length words'
    room_two e = let l = room e in let a = left_is in let b = T.long in omega linear

    module _ {vars' marks' : List ℤ} (lv : length vars' ≡ length vars) (lm : length marks' ≡ length marks) where
      pub went_on : stepped t words height vars marks ≡ on (hold rest vars' marks') → Tried t words height vars marks words' vars' marks' (Ok left)
      went_on e = went (e ∙ ap (λ (l : List ℕ). on (hold l vars' marks')) (sym T.rest)) T.zeros T.long lv lm

      pub went_one : {r : ℕ} → stepped t words height vars marks ≡ on (hold (r ∷ rest) vars' marks')
          → Tried t words height vars marks (set words' left r) vars' marks' (Ok (left + 1))
      went_one {r} e =
          let l = room_one e in
          let p : held_in (set words' left r) (left + 1) ≡ r ∷ rest = pushed words' left r l ∙ ap (λ (k : List ℕ). r ∷ k) T.rest in
          went (e ∙ ap (λ (k : List ℕ). on (hold k vars' marks')) (sym p)) (zeros_pushed words' left r l T.zeros)
          (length-set words' left r ∙ T.long) lv lm

      pub went_two : {r q : ℕ} → stepped t words height vars marks ≡ on (hold (q ∷ r ∷ rest) vars' marks')
          → Tried t words height vars marks (set (set words' left r) (left + 1) q) vars' marks' (Ok (left + 2))
      went_two {r} {q} e =
          let l = room_two e in
          let one : left < length words' = omega linear in
          let two : left + 1 < length (set words' left r) = rw (length-set words' left r) l in
          let first : held_in (set words' left r) (left + 1) ≡ r ∷ rest = pushed words' left r one ∙ ap (λ (k : List ℕ). r ∷ k) T.rest in
          let p : held_in (set (set words' left r) (left + 1) q) (left + 1 + 1) ≡ q ∷ r ∷ rest =
          pushed (set words' left r) (left + 1) q two ∙ ap (λ (k : List ℕ). q ∷ k) first in
          let z = zeros_pushed (set words' left r) (left + 1) q two (zeros_pushed words' left r one T.zeros) in
          let h : left + 1 + 1 ≡ left + 2 = omega linear in
          rw (← h) (went (e ∙ ap (λ (k : List ℕ). on (hold k vars' marks')) (sym p)) z
          (length-set (set words' left r) (left + 1) q ∙ (length-set words' left r ∙ T.long)) lv lm)

  -- ---- a step that fails

  -- where a value or a truth was not worked out
  pub stopped : {A : Type 0} {x : Worked A} {y : Fault} (f : A → Stepped) → stepped t words height vars marks ≡ carry x f → x ≡ stop y
      → Tried t words height vars marks words vars marks (Err (failure_of y))
  stopped {A} {x} {y} f e i = halted {e = failure_of y} (rw (e, i) (fault_is y)) refl refl refl
