-- Example A, computed: the rows of the parts of its loop, row 15 (its invariant is no variant, nor its note), and what is to hold
-- where the body of the loop ends (the invariant, and the variant less the loop's own mark) and where the script, row 19, ends
-- (the postcondition, no precondition). Assumes nothing.
use Rattle.std.specs.Prelude.{◌≡◌, refl, [], ◌∷◌}
use Rattle.script.specs.Rows.{row, row_of}
use Rattle.script.specs.Trees.{expr, formula, expr_at, formula_at}
use Rattle.script.specs.Words.{expr_words, formula_words}
use Rattle.script.specs.Computed.{◌⨾◌, example, example_a, numbers}
use Rattle.wp_writer.specs.Loops.{invariant_row, variant_row, guard_row, body_row}
use Rattle.wp_writer.specs.Ends.{end_formula}

loop_rows : (invariant_row example_a 15 ≡ 8) × ((variant_row example_a 15 ≡ 9) × ((guard_row example_a 15 ≡ 5) × (body_row example_a 15 ≡ 14)))
unfolding example_a example ◌⨾◌
loop_rows = (refl, (refl, (refl, refl)))

ends : (formula_words (end_formula example_a 15) ≡ numbers (23 ∷ 19 ∷ 1 ∷ 0 ∷ 2 ∷ 0 ∷ 18 ∷ 2 ∷ 0 ∷ 9 ∷ 15 ∷ []))
    × (formula_words (end_formula example_a 19) ≡ numbers (20 ∷ 2 ∷ 0 ∷ 1 ∷ 0 ∷ []))
unfolding example_a example ◌⨾◌ numbers row row_of expr formula expr_at formula_at expr_words formula_words end_formula
ends = (refl, refl)
