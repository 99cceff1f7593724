-- Wrong turns of 02, P7, each told from the mender defined at one table (`other_answers`): the order, links, marks,
-- refusals, counts and buffers. Assumes nothing.
use Rattle.std.specs.Prelude.{ℕ, ◌+◌, ◌*◌, ◌-◌, List, [], ◌∷◌, ◌++◌, cond, ◌||◌, ◌&&◌, ℤ, pos, eqb, ltb, leb, take, replicate}
use Rattle.script.specs.Computed.{◌⨾◌}
use Rattle.script.specs.Rows.{Part, parts, row, row_of}
use Rattle.script.specs.Refusals.{◌and_then◌, lowest, linked, row_fault, row_fault_within, length_test, script_test, unlinked_test}
use Rattle.script.specs.Generated.{zeros}
use Rattle.mending.specs.Copies.{each, part_sum, copies, origins, size, cap, capped_at, capped_from, capped_total}
use Rattle.mending.specs.NewTable.{places, renewed, place_of, written, renamed, part_places, new_word, new_table}
use Rattle.mending.specs.Reached.{outside, targets, uncut, sweep, reached, among, reached_rows, escapes}
use Rattle.mending.specs.Mended.{part_fault, mark_fault, part_test, mark_test, too_long, size_test, mend_verdict, mended}
use Rattle.mending.specs.Figures.{doubling, doubled_more}
use Rattle.mending.specs.Variants.{Ways, right, laying, testing, counting, copies_by, sweep_by, capped_by, mended_by, Wrong, OtherAnswers, all_told}

-- ---- the order, links and marks

abbrev pub parent_first : Ways
parent_first = laying (λ C r ps. r ∷ each C ps) right.place right.rename

-- parts right to left
abbrev backward : (ℕ → List ℕ) → List Part → List ℕ
backward C [] = []
backward C (p ∷ ps) = backward C ps ++ C p.at

abbrev pub right_to_left : Ways
right_to_left = laying (λ C r ps. backward C ps ++ (r ∷ [])) right.place right.rename

-- of the parts of a row only the first is copied
abbrev pub first_part_alone : Ways
first_part_alone = laying (λ C r ps. each C (take 1 ps) ++ (r ∷ [])) right.place right.rename

-- a link goes to the first row of its part
abbrev firsts : (ℕ → ℕ) → ℕ → List Part → List ℕ
firsts S lo [] = []
firsts S lo (p ∷ ps) = lo ∷ firsts S (lo + S p.at) ps

abbrev pub link_to_the_first_row : Ways
link_to_the_first_row = laying right.gather (λ S k ps. firsts S (k - part_sum S ps) ps) right.rename

abbrev pub mark_not_renamed : Ways
mark_not_renamed = laying right.gather right.place (λ os k m. m)

abbrev pub mark_of_the_first_copy : Ways
mark_of_the_first_copy = laying right.gather right.place (λ os k m. place_of m 0 os)

-- ---- what is refused

-- every mark that is reached is outside
abbrev pub body_left_in_place : Ways
body_left_in_place = testing parts cap part_fault script_test too_long right.judge

-- "A loop's own note is not inside its body"
abbrev pub own_note_is_inside : Ways
own_note_is_inside = testing (λ w. take 1 (outside w)) cap part_fault script_test too_long right.judge

abbrev pub guard_is_inside : Ways
guard_is_inside = testing (λ w. []) cap part_fault script_test too_long right.judge

-- sums stop at 2,048, which 2,049 rows then seem to be
abbrev pub cap_one_short : Ways
cap_one_short = testing outside 2048 part_fault script_test too_long right.judge

-- 5 is lost
abbrev pub wrong_sort_passes : Ways
wrong_sort_passes =
    testing outside cap (λ t r. cond (eqb (row_fault t r) 5) 0 (part_fault t r)) script_test too_long right.judge

-- 6 is kept
abbrev pub shared_row_refused : Ways
shared_row_refused = testing outside cap row_fault script_test too_long right.judge

-- 7 for a row that nothing links to, too
abbrev pub unlinked_row_refused : Ways
unlinked_row_refused =
    testing outside cap part_fault (λ t. script_test t and_then unlinked_test t) too_long right.judge

-- 14 before 13, and before 7
abbrev pub room_before_marks : Ways
room_before_marks =
    testing outside cap part_fault script_test too_long (λ l p s m z. l and_then p and_then s and_then z and_then m)

abbrev pub room_before_the_last_row : Ways
room_before_the_last_row =
    testing outside cap part_fault script_test too_long (λ l p s m z. l and_then p and_then z and_then s and_then m)

abbrev pub marks_before_the_last_row : Ways
marks_before_the_last_row =
    testing outside cap part_fault script_test too_long (λ l p s m z. l and_then p and_then m and_then s and_then z)

-- buffers that just hold the result are refused; a buffer for the table is measured in rows; both buffers must be
-- passed
abbrev pub exact_fit_refused : Ways
exact_fit_refused =
    testing outside cap part_fault script_test (λ a b n. ltb 2048 n || (leb a (4 * n) || leb b n)) right.judge

abbrev pub table_measured_in_rows : Ways
table_measured_in_rows =
    testing outside cap part_fault script_test (λ a b n. ltb 2048 n || (ltb a n || ltb b n)) right.judge

abbrev pub both_buffers_passed : Ways
both_buffers_passed =
    testing outside cap part_fault script_test (λ a b n. ltb 2048 n || (ltb a (4 * n) && ltb b n)) right.judge

-- ---- counts and buffers

abbrev pub dropped_by_new_rows : Ways
dropped_by_new_rows = counting (λ old met new. old - new) right.copies_again zeros

abbrev pub copied_from_old_rows : Ways
copied_from_old_rows = counting right.drops (λ old met new. new - old) zeros

abbrev pub no_zeros_behind : Ways
no_zeros_behind = counting right.drops right.copies_again (λ n. [])

abbrev pub old_words_behind : Ways
old_words_behind = counting right.drops right.copies_again (λ n. replicate n (pos 1))

-- ---- tables that tell them apart

-- one constant used four times
abbrev shared : List ℤ
shared = (1, 5, 0, 0) ⨾ (19, 0, 0, 0) ⨾ (32, 0, 0, 0) ⨾ (48, 1, 2, 1) ⨾ []

-- precondition true, postcondition false
abbrev unlike : List ℤ
unlike = (16, 0, 0, 0) ⨾ (17, 0, 0, 0) ⨾ (32, 0, 0, 0) ⨾ (48, 0, 2, 1) ⨾ []

-- a loop with its mark in its body, used twice
abbrev looped : List ℤ
looped =
    (16, 0, 0, 0) ⨾ (9, 6, 0, 0) ⨾ (1, 1, 0, 0) ⨾ (18, 1, 2, 0) ⨾ (38, 3, 0, 0) ⨾ (37, 0, 2, 0) ⨾ (36, 0, 5, 4)
    ⨾ (34, 6, 6, 0) ⨾ (48, 0, 7, 0) ⨾ []

-- a mark in its loop's note, and in its guard
abbrev noted : List ℤ
noted = (16, 0, 0, 0) ⨾ (9, 4, 0, 0) ⨾ (37, 0, 1, 0) ⨾ (32, 0, 0, 0) ⨾ (36, 0, 2, 3) ⨾ (48, 0, 4, 0) ⨾ []

abbrev guarded : List ℤ
guarded =
    (16, 0, 0, 0) ⨾ (9, 6, 0, 0) ⨾ (18, 1, 1, 0) ⨾ (1, 1, 0, 0) ⨾ (37, 0, 3, 0) ⨾ (32, 0, 0, 0) ⨾ (36, 2, 4, 5) ⨾
    (48, 0, 6, 0) ⨾ []

-- a statement for a formula
abbrev unsorted : List ℤ
unsorted = (32, 0, 0, 0) ⨾ (48, 0, 0, 0) ⨾ []

-- one row not reached, one used twice
abbrev unreached : List ℤ
unreached = (1, 7, 0, 0) ⨾ (16, 0, 0, 0) ⨾ (32, 0, 0, 0) ⨾ (48, 1, 2, 1) ⨾ []

-- the last row is a mark that names no loop
abbrev unfinished : List ℤ
unfinished = (16, 0, 0, 0) ⨾ (9, 0, 0, 0) ⨾ []

abbrev tell : Ways → List ℤ → ℕ → ℕ → Wrong
tell w t a b = record { turn = w; at = t; table_room = a; origins_room = b }

abbrev pub wrong_turns : List Wrong
wrong_turns =
    tell parent_first shared 64 20
    ∷ tell right_to_left unlike 16 4
    ∷ tell first_part_alone shared 64 20
    ∷ tell link_to_the_first_row shared 64 20
    ∷ tell mark_not_renamed looped 88 22
    ∷ tell mark_of_the_first_copy looped 88 22
    ∷ tell body_left_in_place looped 88 22
    ∷ tell own_note_is_inside noted 64 20
    ∷ tell guard_is_inside guarded 64 20
    ∷ tell cap_one_short (doubled_more 8) 8196 2049
    ∷ tell wrong_sort_passes unsorted 64 20
    ∷ tell shared_row_refused shared 64 20
    ∷ tell unlinked_row_refused unreached 64 20
    ∷ tell room_before_marks noted 0 0
    ∷ tell room_before_the_last_row unfinished 0 0
    ∷ tell marks_before_the_last_row unfinished 64 20
    ∷ tell exact_fit_refused unlike 16 4
    ∷ tell table_measured_in_rows unlike 15 4
    ∷ tell both_buffers_passed unlike 16 3
    ∷ tell dropped_by_new_rows unreached 64 20
    ∷ tell copied_from_old_rows unreached 64 20
    ∷ tell no_zeros_behind unlike 64 20
    ∷ tell old_words_behind unlike 64 20
    ∷ []

pub other_answers : OtherAnswers wrong_turns
unfolding doubling doubled_more mended_by copies_by sweep_by capped_by ◌⨾◌ row row_of lowest linked row_fault_within length_test script_test unlinked_test each part_sum copies origins size capped_at capped_from capped_total places renewed place_of written renamed part_places new_word new_table outside targets uncut sweep reached among reached_rows escapes part_fault mark_fault part_test mark_test too_long size_test mend_verdict mended
other_answers = all_told wrong_turns tt
