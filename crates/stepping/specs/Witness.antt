-- The hypotheses of `total_never_spent` and `ends_or_leaves` can hold, with a loop that makes three passes: 01's example A, the countdown,
-- from the start with v0 = 3. Its run is totally correct (`correct`), it arrives at its loop with variant 3 (`arrivals`), so at most
-- 9 steps are made (`bound`), and a limit of 9 is not spent (`not_spent`). By computation the machine answers 0 after 7 steps
-- (`computed`), and with a limit of 6 it answers 54 (`computed_short`), from where `machine_on` ends the run (`computed_on`).
-- What holds at every moment of a run that ends is seen at finitely many (`every_moment`). Assumes nothing.
use Prim.Native.Nat.{ℕ, zero, suc}
use Rattle.std.specs.Prelude.{◌≡◌, refl, ◌≢◌, ◌⊎◌, false, List, ◌∷◌, ℤ, pos, replicate}
use Rattle.std.proofs.Math.Path.{subst⁻¹}
use Rattle.std.proofs.Common.{arith as linear}
use Rattle.script.specs.Computed.{◌⨾◌, example, example_a}
use Rattle.script.specs.Meaning.{Arithmetic, State, whole, value, holds, defined, definedᶠ}
use Rattle.script.specs.Run.{Config, at, failed, test, first_step, step_of, step, after, start, Good, TotalCorrectness}
use Rattle.script.specs.Rows.{row, row_of, rows}
use Rattle.script.specs.Trees.{expr, formula, stmt, expr_at, formula_at, stmt_at, tree, nesting}
use Rattle.script.specs.Refusals.{accepted, verdict, lowest, row_fault_within, linked, misread, misreads, length_test, row_test_within, script_test, unlinked_test, target_test, reading_test, nesting_test, verdict_within}
use Rattle.stepping.specs.Values.{work, judge}
use Rattle.stepping.specs.Machine.{mode_64, state_of, due, machine_step, play, Ran, called, too_short, machine_run, machine_on}
use Rattle.stepping.specs.Within.{still}
use Rattle.stepping.specs.StepBound.{most_steps}
use Rattle.stepping.specs.EnoughSteps.{Arrivals, total_never_spent, ends_or_leaves}

-- ---- every moment of a run that rests

module _ (𝔸 : Arithmetic) (P : Config → Type 0) where
  -- at this moment, and at so many after it
  abbrev pub Until : ℕ → Config → Type 0
  Until zero g = P g
  Until (suc n) g = P g × Until n (step 𝔸 g)

  pub every_moment : (n : ℕ) (g : Config) → Until n g → step 𝔸 (after 𝔸 n g) ≡ after 𝔸 n g → (m : ℕ) → P (after 𝔸 m g)
  unfolding after
  every_moment zero g h e m = subst⁻¹ P (still 𝔸 m g e) h
  every_moment (suc n) g h e zero = h.0
  every_moment (suc n) g h e (suc m) = every_moment n (step 𝔸 g) h.1 e m

-- ---- the start

unfoldable pub vars : List ℤ
vars = pos 3 ∷ replicate 1023 (pos 0)

unfoldable pub marks : List ℤ
marks = replicate 2048 (pos 0)

unfoldable pub stack : List ℕ
stack = replicate 40 0

abbrev pub x : Config
x = start (tree example_a) (state_of vars marks)

abbrev state_in : Config → State
state_in (at k s) = s
state_in (failed c y) = state_of vars marks

pub correct : TotalCorrectness whole (tree example_a) (state_of vars marks)
unfolding example_a example ◌⨾◌ vars marks row row_of expr formula stmt expr_at formula_at stmt_at tree after step step_of first_step test holds value defined definedᶠ
correct = record {
  steps = 7;
  end = state_in (after whole 7 x);
  ends = refl;
  post = tt;
  good = every_moment whole Good 7 x (omega linear) refl;
}

pub arrivals : (n : ℕ) → Arrivals 3 (after whole n x)
unfolding example_a example ◌⨾◌ vars marks row row_of expr formula stmt expr_at formula_at stmt_at tree after step step_of first_step test holds value defined definedᶠ
arrivals = every_moment whole (Arrivals 3) 7 x (omega linear) refl

pub bound : most_steps 3 (tree example_a).body ≡ 9
unfolding example_a example ◌⨾◌ row row_of expr formula stmt expr_at formula_at stmt_at tree most_steps
bound = refl

pub not_spent : (machine_run mode_64 example_a stack vars marks 9).number ≢ 54
not_spent = total_never_spent mode_64 example_a stack vars marks 9 3 arrivals (let b = bound in omega linear) correct

-- ---- the table is accepted, and nothing is too short

pub accepts : verdict example_a ≡ accepted
unfolding example_a example ◌⨾◌ verdict_within length_test row_test_within script_test unlinked_test target_test reading_test nesting_test lowest row_fault_within linked misread misreads nesting row row_of expr formula stmt expr_at formula_at stmt_at tree
accepts = refl

pub room : too_short mode_64 example_a stack vars marks 9 (rows example_a) ≡ false
unfolding example_a example ◌⨾◌ stack vars marks
room = refl

pub ends : ((machine_run mode_64 example_a stack vars marks 9).number ≡ 0) ⊎ ((machine_run mode_64 example_a stack vars marks 9).number ≡ 50)
ends = ends_or_leaves mode_64 example_a stack vars marks 9 3 arrivals (let b = bound in omega linear) correct accepts room

-- ---- by computation

pub computed : let a = machine_run mode_64 example_a stack vars marks 9 in
    (a.number ≡ 0) × (a.row ≡ 0) × (a.steps ≡ 7) × (a.height ≡ 0) × (a.stack ≡ stack)
unfolding example_a example ◌⨾◌ stack vars marks verdict_within length_test row_test_within script_test unlinked_test target_test reading_test nesting_test lowest row_fault_within linked misread misreads nesting row row_of expr formula stmt expr_at formula_at stmt_at tree machine_run called play machine_step due work judge
computed = (refl, refl, refl, refl, refl)

abbrev short : Ran
short = machine_run mode_64 example_a stack vars marks 6

pub computed_short : (short.number ≡ 54) × (short.row ≡ 15) × (short.steps ≡ 6) × (short.height ≡ 1) × (short.stack ≡ 15 ∷ replicate 39 0)
unfolding example_a example ◌⨾◌ stack vars marks verdict_within length_test row_test_within script_test unlinked_test target_test reading_test nesting_test lowest row_fault_within linked misread misreads nesting row row_of expr formula stmt expr_at formula_at stmt_at tree machine_run called play machine_step due work judge
computed_short = (refl, refl, refl, refl, refl)

pub computed_on : let a = machine_on mode_64 example_a short.stack short.vars short.marks 3 short.height in
    (a.number ≡ 0) × (a.steps ≡ 1) × (a.stack ≡ stack)
unfolding example_a example ◌⨾◌ stack vars marks verdict_within length_test row_test_within script_test unlinked_test target_test reading_test nesting_test lowest row_fault_within linked misread misreads nesting row row_of expr formula stmt expr_at formula_at stmt_at tree machine_run machine_on called play machine_step due work judge
computed_on = (refl, refl, refl)
