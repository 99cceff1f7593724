-- What are not the words of D of a row under a path, at accepted tables: those under no assignment where one was passed, those of
-- a choice whose second side stands behind its formula; nor is an and put before a formula where nothing divides.
-- Assumes nothing.
use Rattle.std.specs.Prelude.{◌≡◌, refl, List, [], ◌∷◌, ℤ, pos, get_or}
use Rattle.std.proofs.Common.{ap, arith as linear}
use Rattle.script.specs.Conditions.{divisors}
use Rattle.script.specs.Words.{expr_words, formula_words}
use Rattle.script.specs.Rows.{row, row_of}
use Rattle.script.specs.Laws.{pos_inj}
use Rattle.script.specs.Trees.{expr, formula, stmt, expr_at, formula_at, stmt_at, tree, nesting}
use Rattle.script.specs.Refusals.{verdict, verdict_within, accepted, lowest, row_fault_within, linked, misread, misreads}
use Rattle.script.specs.Refusals.{length_test, row_test_within, script_test, unlinked_test, target_test, reading_test, nesting_test}
use Rattle.script.specs.Computed.{◌⨾◌, numbers}
use Rattle.script.specs.DivisionFigures.{three_divisors, division_in_choose}
use Rattle.formula_writer.specs.Paths.{replaceᵉ, replaceᶠ, under, entry}
use Rattle.dividing.specs.Nodes.{divisors_at}
use Rattle.divisor_writer.specs.Words.{divisor_words, conjunct_words}

-- ---- v1 := v1 - 1; v0 := 1 div v1: the assignment at row 4 is passed before the div at row 7

unfoldable counted_down : List ℤ
counted_down =
    (16, 0, 0, 0) ⨾ (2, 1, 0, 0) ⨾ (1, 1, 0, 0) ⨾ (4, 1, 2, 0) ⨾ (33, 1, 3, 0) ⨾ (1, 1, 0, 0) ⨾ (2, 1, 0, 0) ⨾ (6, 5, 6, 0)
    ⨾ (33, 0, 7, 0) ⨾ (34, 4, 8, 0) ⨾ (16, 0, 0, 0) ⨾ (48, 0, 9, 10) ⨾ []

accepted_here : verdict counted_down ≡ accepted
unfolding counted_down ◌⨾◌ verdict_within length_test row_test_within script_test unlinked_test target_test reading_test nesting_test
    lowest row_fault_within linked misread misreads row row_of expr formula stmt expr_at formula_at stmt_at tree nesting
accepted_here = refl

abbrev passed : List ℤ
passed = pos 2052 ∷ []

passed_is : entry counted_down 4 ≡ pos 2052
unfolding counted_down ◌⨾◌
passed_is = refl

-- v1 - 1 is unequal to 0
right_words : divisor_words counted_down passed 1 7 ≡ numbers (21 ∷ 4 ∷ 2 ∷ 1 ∷ 1 ∷ 1 ∷ 1 ∷ 0 ∷ [])
unfolding counted_down ◌⨾◌ numbers divisors_at row row_of expr_at stmt_at expr stmt divisors under replaceᵉ replaceᶠ expr_words formula_words
right_words = refl

assignment_passed_over : divisor_words counted_down passed 1 7 ≡ numbers (21 ∷ 2 ∷ 1 ∷ 1 ∷ 0 ∷ []) → ⊥
unfolding counted_down ◌⨾◌ numbers divisors_at row row_of expr_at stmt_at expr stmt divisors under replaceᵉ replaceᶠ expr_words formula_words
assignment_passed_over h = let e : pos 4 ≡ pos 2 = ap (λ ws. get_or ws 1 (pos 0)) h in let i = pos_inj e in omega linear

-- ---- choose (v1 div v2 = 0) (v3 div v4) (v5 mod v6), at row 12

second_side_not_denied : divisor_words division_in_choose [] 0 12
    ≡ numbers
    (23 ∷ 23 ∷ 21 ∷ 2 ∷ 2 ∷ 1 ∷ 0
    ∷ 25 ∷ 20 ∷ 6 ∷ 2 ∷ 1 ∷ 2 ∷ 2 ∷ 1 ∷ 0 ∷ 21 ∷ 2 ∷ 4 ∷ 1 ∷ 0
    ∷ 25 ∷ 20 ∷ 6 ∷ 2 ∷ 1 ∷ 2 ∷ 2 ∷ 1 ∷ 0 ∷ 21 ∷ 2 ∷ 6 ∷ 1 ∷ 0 ∷ [])
    → ⊥
unfolding division_in_choose ◌⨾◌ numbers divisors_at row row_of expr_at expr divisors under replaceᵉ replaceᶠ expr_words formula_words
second_side_not_denied h = let e : pos 22 ≡ pos 20 = ap (λ ws. get_or ws 22 (pos 0)) h in let i = pos_inj e in omega linear

-- v1, at row 1
and_before_nothing : conjunct_words three_divisors [] 0 1 ≡ pos 23 ∷ [] → ⊥
unfolding three_divisors ◌⨾◌ divisors_at row row_of expr_at formula_at expr divisors
and_before_nothing h = let e : pos 0 ≡ pos 23 = ap (λ ws. get_or ws 0 (pos 0)) h in let i = pos_inj e in omega linear
