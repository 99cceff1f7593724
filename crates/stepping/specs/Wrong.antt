-- The wrong turns of `WrongWays`, each told from the machine defined by another answer to one call (`other_answers`). What both answer, number, row and steps: `right_answers`, `wrong_answers`.
-- Assumes nothing.
use Rattle.std.specs.Prelude.{ℕ, ◌≡◌, refl, ◌≢◌, List, [], ◌∷◌, ◌++◌, map, Bool, true, ◌&&◌, ℤ, pos, T, replicate}
use Rattle.script.specs.Computed.{◌⨾◌, example, example_a}
use Rattle.script.specs.Meaning.{value, holds}
use Rattle.script.specs.Rows.{row, row_of}
use Rattle.script.specs.Trees.{expr, formula, stmt, expr_at, formula_at, stmt_at, tree, nesting}
use Rattle.script.specs.Refusals.{lowest, row_fault_within, linked, misread, misreads, length_test, row_test_within, script_test, unlinked_test, target_test, reading_test, nesting_test, verdict_within}
use Rattle.theorems.specs.Truths.{both}
use Rattle.theorems.specs.Differ.{other, told}
use Rattle.stepping.specs.Values.{mode_64, work, judge}
use Rattle.stepping.specs.Machine.{due, machine_step, play, Ran, called, machine_run}
use Rattle.stepping.specs.WrongTables.{big_by_zero, zero_then_big, big_between, big_not_chosen, big_after_false, zero_asserted, big_variant, big_pass, lowest_divided, one_branch, false_first, false_at_the_end}
use Rattle.stepping.specs.Variants.{Ways, work_by, judge_by, play_by, run_by}
use Rattle.stepping.specs.WrongWays.{divisor_first, right_first, lowest_by_minus_one_let_through, results_untested, both_branches_worked_out, connective_cut_short, annotation_divides, variant_worked_out_at_exit, mark_not_set, loop_left_after_a_pass, else_branch_taken, spent_told_as_ended, shown_split, row_of_the_sequence, postcondition_worked_out, limit_tested_after_the_step, failed_step_counted, mark_set_first}

-- ---- a wrong machine, and the call that it answers otherwise

pub record Wrong : Type 0 where
  pub turn : Ways
  pub table : List ℤ
  pub limit : ℕ

abbrev tell : Ways → List ℤ → ℕ → Wrong
tell w t n = record { turn = w; table = t; limit = n }

-- v0 is 3, v1 is 2 to the 62nd, all else is 0
unfoldable pub vars : List ℤ
vars = pos 3 ∷ pos 4611686018427387904 ∷ replicate 1022 (pos 0)

unfoldable pub marks : List ℤ
marks = replicate 2048 (pos 0)

unfoldable pub stack : List ℕ
stack = replicate 20 0

abbrev words_of : Ran → List ℤ
words_of a =
    pos a.number ∷ pos a.row ∷ pos a.steps ∷ pos a.height ∷ (map pos a.stack ++ (a.vars ++ a.marks))

abbrev theirs : Wrong → Ran
theirs w = run_by w.turn mode_64 w.table stack vars marks w.limit

abbrev ours : Wrong → Ran
ours w = machine_run mode_64 w.table stack vars marks w.limit

abbrev told_all : List Wrong → Bool
told_all [] = true
told_all (w ∷ ws) = other words_of (theirs w) (ours w) && told_all ws

abbrev pub OtherAnswers : List Wrong → Type 0
OtherAnswers [] = Unit {0}
OtherAnswers (w ∷ ws) = (theirs w ≢ ours w) × OtherAnswers ws

all_told : (ws : List Wrong) → T (told_all ws) → OtherAnswers ws
all_told [] h = tt
all_told (w ∷ ws) h =
    let b = both (other words_of (theirs w) (ours w)) (told_all ws) h in
    (told words_of (theirs w) (ours w) b.0, all_told ws b.1)

-- ---- the calls that tell them apart

abbrev pub wrong_turns : List Wrong
wrong_turns =
    tell divisor_first big_by_zero 9
    ∷ tell right_first zero_then_big 9
    ∷ tell results_untested big_between 9
    ∷ tell both_branches_worked_out big_not_chosen 9
    ∷ tell connective_cut_short big_after_false 9
    ∷ tell annotation_divides zero_asserted 9
    ∷ tell variant_worked_out_at_exit big_variant 9
    ∷ tell mark_not_set example_a 9
    ∷ tell loop_left_after_a_pass example_a 9
    ∷ tell else_branch_taken one_branch 9
    ∷ tell spent_told_as_ended example_a 6
    ∷ tell shown_split false_first 9
    ∷ tell row_of_the_sequence false_first 9
    ∷ tell postcondition_worked_out false_at_the_end 9
    ∷ tell lowest_by_minus_one_let_through lowest_divided 9
    ∷ tell limit_tested_after_the_step example_a 0
    ∷ tell failed_step_counted false_first 9
    ∷ tell mark_set_first big_pass 9
    ∷ []

pub other_answers : OtherAnswers wrong_turns
unfolding vars marks stack example_a example ◌⨾◌ verdict_within length_test row_test_within script_test unlinked_test target_test reading_test nesting_test lowest row_fault_within linked misread misreads nesting row row_of expr formula stmt expr_at formula_at stmt_at tree machine_run called play machine_step due work judge run_by play_by work_by judge_by value holds
other_answers = all_told wrong_turns tt

-- v2 := v1 + v1
abbrev big_stored : List ℤ
big_stored = (16, 0, 0, 0) ⨾ (2, 1, 0, 0) ⨾ (2, 1, 0, 0) ⨾ (3, 1, 2, 0) ⨾ (33, 2, 3, 0) ⨾ (16, 0, 0, 0) ⨾ (48, 0, 4, 5) ⨾ []

-- two that are right where they might be wrong twice: a stored value is tested, an annotation divides by zero
pub right_elsewhere : ((run_by results_untested mode_64 big_stored stack vars marks 9).number ≡ 50)
    × ((run_by results_untested mode_64 zero_asserted stack vars marks 9).number ≡ 0)
    × ((run_by divisor_first mode_64 zero_asserted stack vars marks 9).number ≡ 0)
unfolding vars marks stack ◌⨾◌ verdict_within length_test row_test_within script_test unlinked_test target_test reading_test nesting_test lowest row_fault_within linked misread misreads nesting row row_of expr formula stmt expr_at formula_at stmt_at tree due run_by play_by work_by judge_by
right_elsewhere = (refl, refl, refl)

-- number, row and steps of an answer
abbrev told_first : Ran → List ℕ
told_first a = a.number ∷ a.row ∷ a.steps ∷ []

abbrev first_words : (Wrong → Ran) → List Wrong → List (List ℕ)
first_words f ws = map (λ w. told_first (f w)) ws

-- what the machine defined answers, and what they do
pub right_answers : first_words ours wrong_turns
    ≡
    (50 ∷ 6 ∷ 0 ∷ []) ∷ (53 ∷ 8 ∷ 0 ∷ []) ∷ (50 ∷ 6 ∷ 0 ∷ []) ∷ (0 ∷ 0 ∷ 1 ∷ []) ∷ (50 ∷ 8 ∷ 0 ∷ []) ∷
    (0 ∷ 0 ∷ 1 ∷ []) ∷ (0 ∷ 0 ∷ 1 ∷ []) ∷ (0 ∷ 0 ∷ 7 ∷ []) ∷ (0 ∷ 0 ∷ 7 ∷ []) ∷ (0 ∷ 0 ∷ 2 ∷ []) ∷
    (54 ∷ 15 ∷ 6 ∷ []) ∷ (52 ∷ 2 ∷ 0 ∷ []) ∷ (52 ∷ 2 ∷ 0 ∷ []) ∷ (0 ∷ 0 ∷ 1 ∷ []) ∷ (50 ∷ 8 ∷ 0 ∷ []) ∷
    (54 ∷ 15 ∷ 0 ∷ []) ∷ (52 ∷ 2 ∷ 0 ∷ []) ∷ (50 ∷ 8 ∷ 0 ∷ []) ∷ []
unfolding vars marks stack example_a example ◌⨾◌ verdict_within length_test row_test_within script_test unlinked_test target_test reading_test nesting_test lowest row_fault_within linked misread misreads nesting row row_of expr formula stmt expr_at formula_at stmt_at tree machine_run called play machine_step due work judge run_by play_by work_by judge_by value holds
right_answers = refl

pub wrong_answers : first_words theirs wrong_turns
    ≡
    (53 ∷ 6 ∷ 0 ∷ []) ∷ (50 ∷ 8 ∷ 0 ∷ []) ∷ (0 ∷ 0 ∷ 1 ∷ []) ∷ (50 ∷ 7 ∷ 0 ∷ []) ∷ (52 ∷ 8 ∷ 0 ∷ []) ∷
    (53 ∷ 6 ∷ 0 ∷ []) ∷ (50 ∷ 8 ∷ 0 ∷ []) ∷ (0 ∷ 0 ∷ 7 ∷ []) ∷ (0 ∷ 0 ∷ 2 ∷ []) ∷ (0 ∷ 0 ∷ 2 ∷ []) ∷
    (0 ∷ 15 ∷ 6 ∷ []) ∷ (52 ∷ 2 ∷ 0 ∷ []) ∷ (52 ∷ 4 ∷ 0 ∷ []) ∷ (52 ∷ 0 ∷ 1 ∷ []) ∷ (0 ∷ 0 ∷ 1 ∷ []) ∷
    (54 ∷ 14 ∷ 1 ∷ []) ∷ (52 ∷ 2 ∷ 1 ∷ []) ∷ (50 ∷ 8 ∷ 0 ∷ []) ∷ []
unfolding vars marks stack example_a example ◌⨾◌ verdict_within length_test row_test_within script_test unlinked_test target_test reading_test nesting_test lowest row_fault_within linked misread misreads nesting row row_of expr formula stmt expr_at formula_at stmt_at tree machine_run called play machine_step due work judge run_by play_by work_by judge_by value holds
wrong_answers = refl
