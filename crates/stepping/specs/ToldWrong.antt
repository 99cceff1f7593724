-- Answers that `ComesTo` alone would let through, and that `StoppedAt` and `LeftRows` do not: another row with an equal statement
-- (`other_row`), more steps than it took to the end (`more_steps_told`), and a false assertion told a pass too early (`earlier_pass`).
-- Assumes nothing.
use Rattle.std.specs.Prelude.{◌≡◌, refl, List, [], ◌∷◌, ℤ, pos, replicate, set}
use Rattle.std.proofs.Common.{◌∙◌, arith as linear}
use Rattle.script.specs.Computed.{◌⨾◌}
use Rattle.script.specs.Syntax.{Stmt}
use Rattle.script.specs.Meaning.{whole, value, holds, defined, definedᶠ}
use Rattle.script.specs.Run.{Config, failed, false_assertion, start, after, step, step_of, first_step, test}
use Rattle.script.specs.Rows.{row, row_of}
use Rattle.script.specs.Trees.{expr, formula, stmt, expr_at, formula_at, stmt_at, tree}
use Rattle.stepping.specs.Machine.{mode_64, state_of, Ran}
use Rattle.stepping.specs.Within.{next_moment, clash}
use Rattle.stepping.specs.Figures.{scripted}
use Rattle.stepping.specs.Halted.{StoppedAt, at_end, out_of_range, at_false, at_zero, at_limit}
use Rattle.stepping.specs.StackSteps.{LeftRows}

unfoldable pub vars : List ℤ
vars = replicate 1024 (pos 0)

unfoldable pub marks : List ℤ
marks = replicate 2048 (pos 0)

-- skip, at row 1 of 4
unfoldable pub skips : List ℤ
skips = scripted ((32, 0, 0, 0) ⨾ []) 1

-- 54 with row 77, which is no row of the table and so stands for skip
pub other_row : ¬ LeftRows mode_64 skips (replicate 4 9) vars marks 0
    (record { number = 54; row = 77; steps = 0; height = 1; stack = 77 ∷ 0 ∷ 0 ∷ 0 ∷ []; vars = vars; marks = marks })
unfolding skips ◌⨾◌
other_row h = let l = (h.due_single (λ e. omega linear)).inside in omega linear

-- 0 after 9 steps, where it took one
pub more_steps_told : ¬ StoppedAt mode_64 skips 9 (start (tree skips) (state_of vars marks))
    (record { number = 0; row = 0; steps = 9; height = 0; stack = 0 ∷ 0 ∷ 0 ∷ 0 ∷ []; vars = vars; marks = marks })
unfolding skips ◌⨾◌ row row_of expr formula stmt expr_at formula_at stmt_at tree after step step_of first_step
more_steps_told h =
    elim h.halts [
      | at_end z e f ↦ f 1 (omega linear) (record { steps = 1; allowed = omega linear; end = state_of vars marks; ends = refl })
      | out_of_range z l d o ↦ omega linear
      | at_false z l e ↦ omega linear
      | at_zero z l e ↦ omega linear
      | at_limit z l e ↦ omega linear
    ]

-- while v0 < 2 keep true fall 0 do (assert v0 < 1; v0 := v0 + 1)
unfoldable pub passes : List ℤ
passes =
    scripted ((2, 0, 0, 0) ⨾ (1, 2, 0, 0) ⨾ (18, 1, 2, 0) ⨾ (16, 0, 0, 0) ⨾ (1, 0, 0, 0) ⨾ (37, 4, 5, 0) ⨾ (2, 0, 0, 0)
    ⨾ (1, 1, 0, 0) ⨾ (18, 7, 8, 0) ⨾ (38, 9, 0, 0) ⨾ (2, 0, 0, 0) ⨾ (1, 1, 0, 0) ⨾ (3, 11, 12, 0) ⨾ (33, 0, 13, 0)
    ⨾ (34, 10, 14, 0) ⨾ (36, 3, 6, 15) ⨾ []) 16

abbrev begins : Config
begins = start (tree passes) (state_of vars marks)

abbrev early : Ran
early = record {
  number = 52;
  row = 10;
  steps = 1;
  height = 2;
  stack = 16 ∷ 15 ∷ replicate 18 0;
  vars = vars;
  marks = set marks 16 (pos 0);
}

never : (y : Stmt) → after whole 2 begins ≡ failed false_assertion y → ⊥
unfolding vars marks passes ◌⨾◌ row row_of expr formula stmt expr_at formula_at stmt_at tree after step step_of first_step test holds value defined definedᶠ
never y e = clash e

-- 52 at the assertion in the first pass, where it is true; it is false in the second
pub earlier_pass : ¬ StoppedAt mode_64 passes 30 begins early
earlier_pass h =
    elim h.halts [
      | at_end z e f ↦ omega linear
      | out_of_range z l d o ↦ omega linear
      | at_false z l e ↦ never (stmt_at passes 10) (next_moment whole 1 begins h.comes ∙ e)
      | at_zero z l e ↦ omega linear
      | at_limit z l e ↦ omega linear
    ]
