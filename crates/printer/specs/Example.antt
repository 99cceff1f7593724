-- 01, "The program": example A's output, whole, the first lines of some refusals, and the output for a loop whose guard divides,
-- from the bytes of the input, settled by computing the definitions. Assumes nothing.
use Rattle.std.specs.Prelude.{ℕ, ◌≡◌, refl, List, [], ◌∷◌, ◌++◌, map, pos, negsuc}
use Rattle.script.specs.Rows.{row, row_of}
use Rattle.script.specs.Trees.{expr, formula, stmt, expr_at, formula_at, stmt_at, tree, nesting}
use Rattle.script.specs.Conditions.{conditions, walk, wp, divisors, divisorsᶠ, subst_expr, subst_formula}
use Rattle.script.specs.Words.{list_words, all_lines, line_words, expr_words, formula_words}
use Rattle.script.specs.Refusals.{length_test, row_test_within, script_test, unlinked_test, target_test, reading_test, nesting_test, verdict_within}
use Rattle.script.specs.Refusals.{lowest, row_fault_within, linked, misread, misreads}
use Rattle.script.specs.Generated.{outcome_for, outcome_within}
use Rattle.text.specs.Ascii.{bytes}
use Rattle.text.specs.Decimal.{digits, decimal}
use Rattle.printer.specs.Input.{words_of}
use Rattle.printer.specs.Output.{table_output, output}
use Rattle.printer.specs.Text.{signed_decimal, rest_of_line, line, lines, answer_text}

-- the bytes of a row whose fields are below 256, then the bytes after it
infixr 20 ◌⨾◌
◌⨾◌ : ℕ × ℕ × ℕ × ℕ → List ℕ → List ℕ
r ⨾ bs = r.0 ∷ 0 ∷ 0 ∷ 0 ∷ r.1 ∷ 0 ∷ 0 ∷ 0 ∷ r.2 ∷ 0 ∷ 0 ∷ 0 ∷ r.3 ∷ 0 ∷ 0 ∷ 0 ∷ bs

-- example A, with its row 14, and with bytes after it
example : ℕ × ℕ × ℕ × ℕ → List ℕ → List ℕ
example row-14 bs =
    (1, 0, 0, 0) ⨾ (2, 0, 0, 0) ⨾ (19, 0, 1, 0) ⨾ (1, 0, 0, 0) ⨾ (2, 0, 0, 0) ⨾ (18, 3, 4, 0) ⨾ (1, 0, 0, 0) ⨾ (2, 0, 0, 0)
    ⨾ (19, 6, 7, 0) ⨾ (2, 0, 0, 0) ⨾ (37, 8, 9, 0) ⨾ (2, 0, 0, 0) ⨾ (1, 1, 0, 0) ⨾ (4, 11, 12, 0) ⨾ row-14
    ⨾ (36, 5, 10, 14) ⨾ (2, 0, 0, 0) ⨾ (1, 0, 0, 0) ⨾ (20, 16, 17, 0) ⨾ (48, 2, 15, 18) ⨾ bs

-- while 1 div v0 = 1 (true, 0) do skip
division_in_while : List ℕ
division_in_while =
    (16, 0, 0, 0) ⨾ (1, 1, 0, 0) ⨾ (2, 0, 0, 0) ⨾ (6, 1, 2, 0) ⨾ (1, 1, 0, 0) ⨾ (20, 3, 4, 0)
    ⨾ (16, 0, 0, 0) ⨾ (1, 0, 0, 0) ⨾ (37, 6, 7, 0) ⨾ (32, 0, 0, 0) ⨾ (36, 5, 8, 9) ⨾ (16, 0, 0, 0) ⨾ (48, 0, 10, 11) ⨾ []

-- example A; "A with row 14 `33 128 13 0`: 8, row 14."; "A byte count that is no multiple of 4 is number 1."; "No words: 1.";
-- 02, P5: "a loop whose guard divides lists first a condition of kind 5, guard"
inputs : List (List ℕ)
inputs = example (33, 0, 13, 0) [] ∷ example (33, 128, 13, 0) [] ∷ example (33, 0, 13, 0) (0 ∷ []) ∷ [] ∷ division_in_while ∷ []

outputs : map output inputs
    ≡ (bytes "planned 4 98\n"
    ++ (bytes "exit 15 25 23 19 1 0 2 0 22 18 1 0 2 0 20 2 0 1 0\n"
    ++ (bytes "floor 15 25 23 19 1 0 2 0 18 1 0 2 0 19 1 0 2 0\n"
    ++ (bytes "step 15 25 23 23 19 1 0 2 0 18 1 0 2 0 20 2 0 9 15 23 19 1 0 4 2 0 1 1 18 4 2 0 1 1 9 15\n"
    ++ bytes "main 19 25 19 1 0 2 0 19 1 0 2 0\n"))))
    ∷ bytes "refused 8 14\n"
    ∷ bytes "refused 1 0\n"
    ∷ bytes "refused 1 0\n"
    ∷ (bytes "planned 5 84\n"
    ++ (bytes "guard 10 25 16 21 2 0 1 0\n"
    ++ (bytes "exit 10 25 23 16 22 20 6 1 1 2 0 1 1 16\n"
    ++ (bytes "floor 10 25 23 16 20 6 1 1 2 0 1 1 19 1 0 1 0\n"
    ++ (bytes "step 10 25 23 23 16 20 6 1 1 2 0 1 1 20 1 0 9 10 23 16 18 1 0 9 10\n"
    ++ bytes "main 12 25 16 16\n")))))
    ∷ []
unfolding division_in_while inputs output table_output words_of ◌⨾◌ example answer_text lines line rest_of_line signed_decimal decimal digits outcome_within outcome_for verdict_within length_test row_test_within script_test unlinked_test target_test reading_test nesting_test lowest row_fault_within linked misread misreads row row_of expr formula stmt expr_at formula_at stmt_at tree nesting conditions walk wp divisors divisorsᶠ subst_expr subst_formula list_words all_lines line_words expr_words formula_words
outputs = refl

-- "a two's complement word, low byte first"
input_words : words_of (1 ∷ 2 ∷ 0 ∷ 0 ∷ 254 ∷ 255 ∷ 255 ∷ 255 ∷ 0 ∷ 0 ∷ 0 ∷ 128 ∷ 7 ∷ []) ≡ pos 513 ∷ negsuc 1 ∷ negsuc 2147483647 ∷ []
unfolding words_of
input_words = refl

-- no leading zeros, and a minus sign before a negative number
output_words : rest_of_line (pos 0 ∷ pos 2147483647 ∷ negsuc 2147483647 ∷ []) ≡ bytes " 0 2147483647 -2147483648\n"
unfolding rest_of_line signed_decimal decimal digits
output_words = refl
