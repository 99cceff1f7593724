-- What is no trailer and no count: the trailer of another row or depth, a line counted twice, a count that is not minus the number
-- of conditions.
-- Then the lines of example A, computed: every other line is a wrong one (`lines_are`). Assumes nothing.
use Rattle.std.specs.Prelude.{ℕ, ◌≡◌, refl, List, [], ◌∷◌, ℤ, pos, negsuc, replicate}
use Rattle.std.proofs.Common.{arith as linear, lit≤, MutBor}
use Rattle.script.specs.declared.Rule.TheVariants.{Exit}
use Rattle.script.specs.Laws.{pos_inj}
use Rattle.script.specs.Rows.{row, row_of}
use Rattle.script.specs.Trees.{expr, formula, stmt, expr_at, formula_at, stmt_at}
use Rattle.script.specs.Conditions.{wp, divisors, divisorsᶠ, subst_expr, subst_formula}
use Rattle.script.specs.Words.{with_depth, expr_words, formula_words, line_words}
use Rattle.script.specs.Computed.{◌⨾◌, example, example_a, numbers}
use Rattle.theorems.specs.Writing.{Wrote, fitted, stopped}
use Rattle.following.specs.Course.{rows_from, through, after}
use Rattle.wp_writer.specs.Ends.{end_formula}
use Rattle.output.specs.declared.Output.{Output}
use Rattle.line_writer.specs.declared.Lines.{Lines as declared·Lines}
use Rattle.line_writer.specs.Spelled.{Finished, Counted}
use Rattle.line_writer.specs.Guards.{guard_lines}
use Rattle.line_writer.specs.Loops.{exit_line, floor_line, step_line, main_line}

-- the words l in an output that was lent, written up to a place, with so many conditions
abbrev at : MutBor (Output ℤ) → List ℤ → ℕ → ℕ → declared·Lines
at lent l i n = record { out = record lent { now = record { list = record lent.now.list { now = l }; at = i } }; count = n }

-- a formula of one word at the front of five, then the trailer of row 5, in the bodies of two loops
abbrev five : List ℤ
five = pos 16 ∷ pos 0 ∷ pos 0 ∷ pos 0 ∷ pos 0 ∷ []

abbrev left : ℕ → ℕ → List ℤ
left row depth = pos 16 ∷ pos 1 ∷ pos row ∷ pos 1 ∷ pos depth ∷ []

module _ (lent : MutBor (Output ℤ)) where
  trailer_is : (row depth : ℕ) → Finished 0 Exit 5 2 (at lent five 1 0) (at lent (left row depth) 5 1) → (row ≡ 5) × (depth ≡ 2)
  trailer_is row depth f = by f.words.wrote
    where
      by : Wrote five 1 (pos 1 ∷ pos 5 ∷ pos 1 ∷ pos 2 ∷ []) 5 (left row depth) → (row ≡ 5) × (depth ≡ 2)
      by (fitted h n s) =
          let e : pos row ≡ pos 5 = cc in
          let d : pos depth ≡ pos 2 = cc in
          (pos_inj e, pos_inj d)
      by (stopped h n s) = absurd (omega linear)

  trailer_of_another_row : Finished 0 Exit 5 2 (at lent five 1 0) (at lent (left 6 2) 5 1) → ⊥
  trailer_of_another_row f = let e = (trailer_is 6 2 f).0 in omega linear

  trailer_of_another_depth : Finished 0 Exit 5 2 (at lent five 1 0) (at lent (left 5 3) 5 1) → ⊥
  trailer_of_another_depth f = let e = (trailer_is 5 3 f).1 in omega linear

  counted_twice : Finished 0 Exit 5 2 (at lent five 1 0) (at lent (left 5 2) 5 2) → ⊥
  counted_twice f = let e = f.count (lit≤ tt) in omega linear

  -- the last word, where three were listed
  count_is : (z : ℤ) → Counted (at lent (pos 0 ∷ []) 0 3) (at lent (z ∷ []) 1 3) → z ≡ negsuc 2
  count_is z c = by c.words.wrote
    where
      by : Wrote (pos 0 ∷ []) 0 (negsuc 2 ∷ []) 1 (z ∷ []) → z ≡ negsuc 2
      by (fitted h n s) = cc
      by (stopped h n s) = absurd (omega linear)

  another_count : Counted (at lent (pos 0 ∷ []) 0 3) (at lent (negsuc 1 ∷ []) 1 3) → ⊥
  another_count c = let e = count_is (negsuc 1) c in let n : ◌≡◌ {A = ℕ} 1 2 = cc in omega linear

  count_without_its_sign : Counted (at lent (pos 0 ∷ []) 0 3) (at lent (pos 3 ∷ []) 1 3) → ⊥
  count_without_its_sign c = let e = count_is (pos 3) c in let n : ◌≡◌ {A = ℕ} 0 1 = cc in omega linear

-- ---- example A: the loop at row 15, whose guard does not divide, is the last statement of the script at row 19; no loop encloses it

abbrev ended : List ℤ
ended = replicate 16 (pos 2048)

record Lines : Type 0 where
  no_guard : guard_lines example_a 0 15 ≡ []
  exit : line_words with_depth (exit_line example_a ended 19 0 15)
      ≡ numbers (25 ∷ 23 ∷ 19 ∷ 1 ∷ 0 ∷ 2 ∷ 0 ∷ 22 ∷ 18 ∷ 1 ∷ 0 ∷ 2 ∷ 0 ∷ 20 ∷ 2 ∷ 0 ∷ 1 ∷ 0 ∷ 1 ∷ 15 ∷ 18 ∷ 0 ∷ [])
  floor : line_words with_depth (floor_line example_a 0 15)
      ≡ numbers (25 ∷ 23 ∷ 19 ∷ 1 ∷ 0 ∷ 2 ∷ 0 ∷ 18 ∷ 1 ∷ 0 ∷ 2 ∷ 0 ∷ 19 ∷ 1 ∷ 0 ∷ 2 ∷ 0 ∷ 2 ∷ 15 ∷ 17 ∷ 0 ∷ [])
  step : line_words with_depth (step_line example_a 0 15)
      ≡ numbers
      (25 ∷ 23 ∷ 23 ∷ 19 ∷ 1 ∷ 0 ∷ 2 ∷ 0 ∷ 18 ∷ 1 ∷ 0 ∷ 2 ∷ 0 ∷ 20 ∷ 2 ∷ 0 ∷ 9 ∷ 15
      ∷ 23 ∷ 19 ∷ 1 ∷ 0 ∷ 4 ∷ 2 ∷ 0 ∷ 1 ∷ 1 ∷ 18 ∷ 4 ∷ 2 ∷ 0 ∷ 1 ∷ 1 ∷ 9 ∷ 15 ∷ 3 ∷ 15 ∷ 35 ∷ 0 ∷ [])
  main : line_words with_depth (main_line example_a 19) ≡ numbers (25 ∷ 19 ∷ 1 ∷ 0 ∷ 2 ∷ 0 ∷ 19 ∷ 1 ∷ 0 ∷ 2 ∷ 0 ∷ 4 ∷ 19 ∷ 11 ∷ 0 ∷ [])

lines_are : Lines
unfolding example_a example ◌⨾◌ numbers row row_of expr formula stmt expr_at formula_at stmt_at wp divisors divisorsᶠ subst_expr subst_formula
    expr_words formula_words line_words rows_from through after end_formula
lines_are = record { no_guard = refl; exit = refl; floor = refl; step = refl; main = refl }
