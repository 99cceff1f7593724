-- 02, P9, by computation: the depths of loops that stand in one another, in branches too; fourth words and last words at their
-- edges. Lists of P9's own examples are in `Computed`, guards with their loop's depth in `DivisionFigures`. Assumes nothing.
use Rattle.std.specs.Prelude.{ℕ, zero, suc, ◌+◌, ◌*◌, ◌≡◌, refl, List, [], ◌∷◌, ◌++◌, map, ℤ, pos, negsuc}
use Rattle.script.specs.Conditions.{Condition, conditions, walk, wp, divisors, divisorsᶠ, subst_expr, subst_formula}
use Rattle.script.specs.Rows.{row, row_of}
use Rattle.script.specs.Trees.{expr, formula, stmt, expr_at, formula_at, stmt_at, tree, nesting}
use Rattle.script.specs.Words.{list_words, all_lines, line_words, expr_words, formula_words}
use Rattle.script.specs.Refusals.{lowest, row_fault_within, linked, misread, misreads, length_test, row_test_within, script_test, unlinked_test, target_test, reading_test, nesting_test, verdict_within}
use Rattle.script.specs.Generated.{outcome_for, outcome_within}
use Rattle.script.specs.Listing.{read_expr_within, read_formula_within, spelled_within, found_within, line_before_within, lines_before_within, lines_within, line_at_within, no_line}
use Rattle.script.specs.Computed.{◌⨾◌, numbers, counted_down, Trial, lists, reads, observed, expected}

-- ---- depths of loops

-- the rows of the conditions, each with its depth
told_depths : List ℤ → List (ℕ × ℕ)
told_depths t = map (λ (c : Condition). (c.row, c.depth)) (conditions (tree t))

-- if true then while true (true, 0) do while false (true, 1) do skip else skip
unfoldable pub nest_in_branch : List ℤ
nest_in_branch =
    (16, 0, 0, 0) ⨾ (16, 0, 0, 0) ⨾ (16, 0, 0, 0) ⨾ (16, 0, 0, 0) ⨾ (1, 0, 0, 0) ⨾ (37, 3, 4, 0)
    ⨾ (17, 0, 0, 0) ⨾ (16, 0, 0, 0) ⨾ (1, 1, 0, 0) ⨾ (37, 7, 8, 0) ⨾ (32, 0, 0, 0) ⨾ (36, 6, 9, 10)
    ⨾ (36, 2, 5, 11) ⨾ (32, 0, 0, 0) ⨾ (35, 1, 12, 13) ⨾ (16, 0, 0, 0) ⨾ (48, 0, 14, 15) ⨾ []

-- while true (true, 0) do if true then while false (true, 1) do skip else skip: a branch does not count
branch_in_nest : List ℤ
branch_in_nest =
    (16, 0, 0, 0) ⨾ (16, 0, 0, 0) ⨾ (16, 0, 0, 0) ⨾ (1, 0, 0, 0) ⨾ (37, 2, 3, 0) ⨾ (16, 0, 0, 0)
    ⨾ (17, 0, 0, 0) ⨾ (16, 0, 0, 0) ⨾ (1, 1, 0, 0) ⨾ (37, 7, 8, 0) ⨾ (32, 0, 0, 0) ⨾ (36, 6, 9, 10)
    ⨾ (32, 0, 0, 0) ⨾ (35, 5, 11, 12) ⨾ (36, 1, 4, 13) ⨾ (16, 0, 0, 0) ⨾ (48, 0, 14, 15) ⨾ []

-- n loops in one another, while false (true, 0), around a skip at row 0; the outermost is at row 5 × n
loops : ℕ → List ℤ
loops zero = (32, 0, 0, 0) ⨾ []
loops (suc n) =
    loops n
    ++ ((17, 0, 0, 0) ⨾ (16, 0, 0, 0) ⨾ (1, 0, 0, 0) ⨾ (37, 5 * n + 2, 5 * n + 3, 0) ⨾ (36, 5 * n + 1, 5 * n + 4, 5 * n) ⨾ [])

eight_deep : List ℤ
eight_deep = loops 8 ++ ((16, 0, 0, 0) ⨾ (16, 0, 0, 0) ⨾ (48, 41, 40, 42) ⨾ [])

-- exit and floor of each loop from the outermost inward, then its step; main last
depths_hold : (told_depths nest_in_branch ≡ (12, 0) ∷ (12, 0) ∷ (11, 1) ∷ (11, 1) ∷ (11, 1) ∷ (12, 0) ∷ (16, 0) ∷ [])
    × (told_depths branch_in_nest ≡ (14, 0) ∷ (14, 0) ∷ (11, 1) ∷ (11, 1) ∷ (11, 1) ∷ (14, 0) ∷ (16, 0) ∷ [])
    × (told_depths eight_deep
    ≡ (40, 0) ∷ (40, 0) ∷ (35, 1) ∷ (35, 1) ∷ (30, 2) ∷ (30, 2) ∷ (25, 3) ∷ (25, 3) ∷ (20, 4) ∷ (20, 4) ∷ (15, 5) ∷ (15, 5)
    ∷ (10, 6) ∷ (10, 6) ∷ (5, 7) ∷ (5, 7) ∷ (5, 7) ∷ (10, 6) ∷ (15, 5) ∷ (20, 4) ∷ (25, 3) ∷ (30, 2) ∷ (35, 1) ∷ (40, 0) ∷ (43, 0) ∷ [])
unfolding told_depths nest_in_branch branch_in_nest loops eight_deep ◌⨾◌ row row_of expr formula stmt expr_at formula_at stmt_at tree conditions walk wp divisors divisorsᶠ subst_expr subst_formula
depths_hold = (refl, refl, refl)

-- ---- words at their edges

-- true implies true, main of the script in row 3, with these words after the length
ended : List ℤ → List ℤ
ended ws = numbers (25 ∷ 16 ∷ 16 ∷ 4 ∷ 3 ∷ 3 ∷ []) ++ ws

trials : List Trial
trials =
    lists nest_in_branch
    (25 ∷ 23 ∷ 16 ∷ 22 ∷ 16 ∷ 16 ∷ 1 ∷ 12 ∷ 6 ∷ 0
    ∷ 25 ∷ 23 ∷ 16 ∷ 16 ∷ 19 ∷ 1 ∷ 0 ∷ 1 ∷ 0 ∷ 2 ∷ 12 ∷ 9 ∷ 0
    ∷ 25 ∷ 23 ∷ 16 ∷ 22 ∷ 17 ∷ 23 ∷ 16 ∷ 18 ∷ 1 ∷ 0 ∷ 9 ∷ 12 ∷ 1 ∷ 11 ∷ 12 ∷ 1
    ∷ 25 ∷ 23 ∷ 16 ∷ 17 ∷ 19 ∷ 1 ∷ 0 ∷ 1 ∷ 1 ∷ 2 ∷ 11 ∷ 9 ∷ 1
    ∷ 25 ∷ 23 ∷ 23 ∷ 16 ∷ 17 ∷ 20 ∷ 1 ∷ 1 ∷ 9 ∷ 11 ∷ 23 ∷ 16 ∷ 18 ∷ 1 ∷ 1 ∷ 9 ∷ 11 ∷ 3 ∷ 11 ∷ 17 ∷ 1
    ∷ 25 ∷ 23 ∷ 23 ∷ 16 ∷ 16 ∷ 20 ∷ 1 ∷ 0 ∷ 9 ∷ 12 ∷ 16 ∷ 3 ∷ 12 ∷ 11 ∷ 0
    ∷ 25 ∷ 16 ∷ 23 ∷ 25 ∷ 16 ∷ 16 ∷ 25 ∷ 22 ∷ 16 ∷ 16 ∷ 4 ∷ 16 ∷ 10 ∷ 0 ∷ []) 7
    -- "20 when the fourth word is not 0 to 7"
    ∷ reads (ended (negsuc 0 ∷ negsuc 0 ∷ [])) (pos 0) (no_line 20)
    ∷ reads (ended (pos 0 ∷ negsuc 0 ∷ [])) (pos 0) (record { number = 0; kind = 4; row = 3; depth = 0; start = 0; end = 3 })
    ∷ reads (ended (pos 7 ∷ negsuc 0 ∷ [])) (pos 0) (record { number = 0; kind = 4; row = 3; depth = 7; start = 0; end = 3 })
    ∷ reads (ended (pos 8 ∷ negsuc 0 ∷ [])) (pos 0) (no_line 20)
    ∷ reads (ended (pos 7 ∷ negsuc 0 ∷ [])) (pos 1) (no_line 21)
    -- "Such lists end in minus the count": 0, one too many, and −2147483648
    ∷ reads (ended (pos 0 ∷ pos 0 ∷ [])) (pos 0) (no_line 20)
    ∷ reads (ended (pos 0 ∷ negsuc 1 ∷ [])) (pos 0) (no_line 20)
    ∷ reads (ended (pos 0 ∷ negsuc 2147483647 ∷ [])) (pos 0) (no_line 20)
    -- the form is told by the last word alone
    ∷ reads (ended (pos 0 ∷ pos 1 ∷ [])) (pos 0) (no_line 20)
    ∷ reads (ended (negsuc 0 ∷ [])) (pos 0) (no_line 20)
    ∷ reads (negsuc 0 ∷ []) (pos 0) (no_line 20)
    -- "0 for an old list", of kind 5 too
    ∷ reads (ended (pos 1 ∷ [])) (pos 0) (record { number = 0; kind = 4; row = 3; depth = 0; start = 0; end = 3 })
    ∷ reads (numbers (16 ∷ 5 ∷ 2 ∷ 1 ∷ 1 ∷ [])) (pos 0) (record { number = 0; kind = 5; row = 2; depth = 0; start = 0; end = 1 })
    -- two conditions, at depths 1 and 0; with the second one's depth out of range neither is read
    ∷ reads (numbers (17 ∷ 1 ∷ 5 ∷ 1 ∷ 1 ∷ 16 ∷ 4 ∷ 6 ∷ 1 ∷ 0 ∷ []) ++ (negsuc 1 ∷ [])) (pos 0)
    (record { number = 0; kind = 1; row = 5; depth = 1; start = 0; end = 1 })
    ∷ reads (numbers (17 ∷ 1 ∷ 5 ∷ 1 ∷ 1 ∷ 16 ∷ 4 ∷ 6 ∷ 1 ∷ 0 ∷ []) ++ (negsuc 1 ∷ [])) (pos 1)
    (record { number = 0; kind = 4; row = 6; depth = 0; start = 5; end = 6 })
    ∷ reads (numbers (17 ∷ 1 ∷ 5 ∷ 1 ∷ 8 ∷ 16 ∷ 4 ∷ 6 ∷ 1 ∷ 0 ∷ []) ++ (negsuc 1 ∷ [])) (pos 1) (no_line 20)
    ∷ []

trials_hold : map observed trials ≡ map expected trials
unfolding trials ended observed expected numbers counted_down nest_in_branch ◌⨾◌ outcome_within outcome_for verdict_within length_test row_test_within script_test unlinked_test target_test reading_test nesting_test lowest row_fault_within linked misread misreads row row_of expr formula stmt expr_at formula_at stmt_at tree nesting conditions walk wp divisors divisorsᶠ subst_expr subst_formula list_words all_lines line_words expr_words formula_words read_expr_within read_formula_within spelled_within found_within line_before_within lines_before_within lines_within line_at_within
trials_hold = refl
