-- Each number that a call can answer (`CallAnswers.Number`) is answered to some call: 1 to 10 and 51 here (`each_refusal`), by computation;
-- 0, 50, 52, 53 and 54 are among `Wrong.right_answers`. Assumes nothing.
use Rattle.std.specs.Prelude.{ℕ, ◌≡◌, refl, List, [], ◌∷◌, map, ℤ, pos, replicate}
use Rattle.script.specs.Computed.{◌⨾◌, four_rows}
use Rattle.script.specs.Rows.{row, row_of}
use Rattle.script.specs.Trees.{expr, formula, stmt, expr_at, formula_at, stmt_at, tree, nesting}
use Rattle.script.specs.Refusals.{lowest, row_fault_within, linked, misread, misreads, length_test, row_test_within, script_test, unlinked_test, target_test, reading_test, nesting_test, verdict_within}
use Rattle.stepping.specs.Values.{mode_64, work, judge}
use Rattle.stepping.specs.Machine.{due, machine_step, play, called, machine_run}

unfoldable pub vars : List ℤ
vars = replicate 1024 (pos 0)

unfoldable pub marks : List ℤ
marks = replicate 2048 (pos 0)

-- nine ifs inside one another
unfoldable pub nine_deep : List ℤ
nine_deep =
    (16, 0, 0, 0) ⨾ (32, 0, 0, 0) ⨾ (16, 0, 0, 0) ⨾ (32, 0, 0, 0) ⨾ (35, 2, 1, 3) ⨾ (16, 0, 0, 0) ⨾ (32, 0, 0, 0) ⨾ (35, 5, 4, 6) ⨾
    (16, 0, 0, 0) ⨾ (32, 0, 0, 0) ⨾ (35, 8, 7, 9) ⨾ (16, 0, 0, 0) ⨾ (32, 0, 0, 0) ⨾ (35, 11, 10, 12) ⨾ (16, 0, 0, 0) ⨾ (32, 0, 0, 0) ⨾
    (35, 14, 13, 15) ⨾ (16, 0, 0, 0) ⨾ (32, 0, 0, 0) ⨾ (35, 17, 16, 18) ⨾ (16, 0, 0, 0) ⨾ (32, 0, 0, 0) ⨾ (35, 20, 19, 21) ⨾ (16, 0, 0, 0) ⨾
    (32, 0, 0, 0) ⨾ (35, 23, 22, 24) ⨾ (16, 0, 0, 0) ⨾ (32, 0, 0, 0) ⨾ (35, 26, 25, 27) ⨾ (16, 0, 0, 0) ⨾ (48, 0, 28, 29) ⨾ []

-- no words; an unknown kind; an unused field that is not 0; a link to itself; a link of another sort; a link taken twice; no script at
-- the end; a frozen target; a frozen name assigned; nesting; and a stack with fewer words than rows
abbrev refused_tables : List (List ℤ)
refused_tables =
    []
    ∷ ((99, 0, 0, 0) ⨾ [])
    ∷ ((16, 1, 0, 0) ⨾ [])
    ∷ ((22, 0, 0, 0) ⨾ [])
    ∷ ((1, 0, 0, 0) ⨾ (22, 0, 0, 0) ⨾ [])
    ∷ ((16, 0, 0, 0) ⨾ (23, 0, 0, 0) ⨾ [])
    ∷ ((16, 0, 0, 0) ⨾ [])
    ∷ ((16, 0, 0, 0) ⨾ (1, 0, 0, 0) ⨾ (33, 128, 1, 0) ⨾ (16, 0, 0, 0) ⨾ (48, 0, 2, 3) ⨾ [])
    ∷ ((16, 0, 0, 0) ⨾ (2, 128, 0, 0) ⨾ (33, 0, 1, 0) ⨾ (16, 0, 0, 0) ⨾ (48, 0, 2, 3) ⨾ [])
    ∷ nine_deep
    ∷ four_rows
    ∷ []

abbrev number : List ℤ → ℕ
number t = (machine_run mode_64 t (0 ∷ 0 ∷ 0 ∷ []) vars marks 9).number

pub each_refusal : map number refused_tables ≡ 1 ∷ 2 ∷ 3 ∷ 4 ∷ 5 ∷ 6 ∷ 7 ∷ 8 ∷ 9 ∷ 10 ∷ 51 ∷ []
unfolding vars marks nine_deep four_rows ◌⨾◌ verdict_within length_test row_test_within script_test unlinked_test target_test reading_test nesting_test lowest row_fault_within linked misread misreads nesting row row_of expr formula stmt expr_at formula_at stmt_at tree machine_run called play machine_step due work judge
each_refusal = refl
