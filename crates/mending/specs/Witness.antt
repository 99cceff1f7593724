-- The hypotheses of `Mending` can hold. `looped` is a table with a shared loop that has its mark in its body: it is
-- mended (`mended_0`), with 13 rows copied again; in the new table a mark stands in a body (`stands`), there are rows
-- to be linked (`some_rows`), and the check accepts it (`accepted_new`), so it is an accepted table in that order, and
-- comes back (`back`). `tame` is another, whose new table is planned with conditions that are true in all states
-- (`tame_list`), so that every run of the old script keeps the promise (`tame_promised`). Marks used inside and outside
-- get 13 (`outside`), a buffer too short 14 (`too_long`). Assumes nothing.
use Rattle.std.specs.Prelude.{ℕ, ◌<◌, ◌≤◌, ◌≡◌, refl, true, false, List, [], ◌∷◌, ℤ, T, length, take}
use Rattle.std.proofs.Common.{sym, subst, ◌∙◌, arith as linear}
use Rattle.script.specs.declared.ExpressionRow.TheVariants.{Mark}
use Rattle.script.specs.declared.Row.TheVariants as Row
use Rattle.script.specs.Computed.{◌⨾◌}
use Rattle.script.specs.Rows.{row, rows, row_of}
use Rattle.script.specs.Meaning.{State, whole, value, holds}
use Rattle.script.specs.Run.{TotalCorrectness}
use Rattle.script.specs.Conditions.{Condition, conditions, walk, wp, divisors, divisorsᶠ, subst_expr, subst_formula}
use Rattle.script.specs.Words.{list_words, all_lines, line_words, expr_words, formula_words}
use Rattle.script.specs.Trees.{expr, formula, stmt, expr_at, formula_at, stmt_at, tree, nesting}
use Rattle.script.specs.Refusals.{accepted, member, lowest, linked, misread, misreads, row_fault_within, length_test, row_test_within, script_test, unlinked_test, target_test, reading_test, nesting_test, verdict, verdict_within}
use Rattle.script.specs.Generated.{Outcome, outcome, outcome_within, outcome_for}
use Rattle.script.specs.Promise.{AllValid, ListValid}
use Rattle.theorems.specs.Options.{some_inj}
use Rattle.theorems.specs.Demand.{planned_list}
use Rattle.theorems.specs.Lowest.{Lowest}
use Rattle.theorems.specs.Links.{here, there}
use Rattle.theorems.specs.Standing.{Stands, script, link}
use Rattle.mending.specs.Copies.{each, part_sum, copies, origins, size, capped_at, capped_from, capped_total}
use Rattle.mending.specs.NewTable.{places, renewed, place_of, written, renamed, part_places, new_word, new_table}
use Rattle.mending.specs.Reached.{targets, uncut, sweep, reached, among, reached_rows, escapes}
use Rattle.mending.specs.Mended.{part_fault, mark_fault, part_test, mark_test, size_test, mend_verdict, mended}
use Rattle.mending.specs.Reached as Reached
use Rattle.mending.specs.Mended as Mended
use Rattle.mending.specs.Escape.{Escaping}
use Rattle.mending.specs.Capped.{TooLong}
use Rattle.mending.specs.Occasions.{WellShaped}
use Rattle.mending.specs.Order.{InOrder}
use Rattle.mending.specs.SameTable.{unchanged}
use Rattle.mending.specs.Mending as Mending

-- true; while true (true, 1) do assert mark < 1, then the same loop again; true
unfoldable pub looped : List ℤ
looped =
    (16, 0, 0, 0) ⨾ (9, 6, 0, 0) ⨾ (1, 1, 0, 0) ⨾ (18, 1, 2, 0) ⨾ (38, 3, 0, 0) ⨾ (37, 0, 2, 0) ⨾ (36, 0, 5, 4)
    ⨾ (34, 6, 6, 0) ⨾ (48, 0, 7, 0) ⨾ []

-- ---- number 0

pub mended_0 : let m = mended looped 88 22 in (m.number ≡ 0) × (m.copied ≡ 13) × (m.dropped ≡ 0)
unfolding looped ◌⨾◌ row row_of lowest linked row_fault_within length_test script_test each part_sum copies origins size capped_at capped_from capped_total places renewed place_of written renamed part_places new_word new_table Reached.outside targets uncut sweep reached among reached_rows escapes part_fault mark_fault part_test mark_test Mended.too_long size_test mend_verdict mended
mended_0 = (refl, refl, refl)

abbrev pub new : List ℤ
new = new_table looped

pub some_rows : rows new ≡ 22
unfolding looped ◌⨾◌ row row_of lowest linked row_fault_within length_test script_test each part_sum copies origins size capped_at capped_from capped_total places renewed place_of written renamed part_places new_word new_table Reached.outside targets uncut sweep reached among reached_rows escapes part_fault mark_fault part_test mark_test Mended.too_long size_test mend_verdict mended
some_rows = refl

-- the mark at row 5 stands in the body of the loop at row 9, which it names
pub stands : Stands new 5 false (9 ∷ [])
unfolding looped ◌⨾◌ row row_of lowest linked row_fault_within length_test script_test each part_sum copies origins size capped_at capped_from capped_total places renewed place_of written renamed part_places new_word new_table Reached.outside targets uncut sweep reached among reached_rows escapes part_fault mark_fault part_test mark_test Mended.too_long size_test mend_verdict mended
stands =
    let s : Stands new 21 false [] = script in
    let q : Stands new 19 false [] = link s (there (here refl)) in
    let l : Stands new 9 false [] = link q (here refl) in
    let a : Stands new 8 false (9 ∷ []) = link l (there (there (here refl))) in
    let f : Stands new 7 false (9 ∷ []) = link a (here refl) in
    link f (here refl)

pub marked : row new 5 ≡ Row.Expression (Mark (record { 0 = 9 }))
unfolding looped ◌⨾◌ row row_of lowest linked row_fault_within length_test script_test each part_sum copies origins size capped_at capped_from capped_total places renewed place_of written renamed part_places new_word new_table Reached.outside targets uncut sweep reached among reached_rows escapes part_fault mark_fault part_test mark_test Mended.too_long size_test mend_verdict mended
marked = refl

pub inside : member 9 (9 ∷ []) ≡ true
inside = Mending.inside looped 88 22 mended_0.0 stands (record { 0 = 9 }) marked

-- ---- an accepted table in that order

pub accepted_new : verdict new ≡ accepted
unfolding looped verdict_within row_test_within unlinked_test target_test reading_test nesting_test misread misreads nesting expr formula stmt expr_at formula_at stmt_at tree ◌⨾◌ row row_of lowest linked row_fault_within length_test script_test each part_sum copies origins size capped_at capped_from capped_total places renewed place_of written renamed part_places new_word new_table Reached.outside targets uncut sweep reached among reached_rows escapes part_fault mark_fault part_test mark_test Mended.too_long size_test mend_verdict mended
accepted_new = refl

pub ordered_new : InOrder new
ordered_new = Mending.ordered looped 88 22 mended_0.0

pub fits_new : (length new ≤ 88) × (rows new ≤ 22)
unfolding looped ◌⨾◌ row row_of lowest linked row_fault_within length_test script_test each part_sum copies origins size capped_at capped_from capped_total places renewed place_of written renamed part_places new_word new_table Reached.outside targets uncut sweep reached among reached_rows escapes part_fault mark_fault part_test mark_test Mended.too_long size_test mend_verdict mended
fits_new = (omega linear, omega linear)

pub back : mended new 88 22 ≡ unchanged new 88 22
back = Mending.comes_back new accepted_new ordered_new 88 22 fits_new.0 fits_new.1

pub again : mended new 88 22 ≡ unchanged new 88 22
again = Mending.again looped 88 22 mended_0.0 88 22 fits_new.0 fits_new.1

-- ---- a script that is proved through its new table

-- true; while false (true, 0) do assert mark = 0, then the same loop again; true
unfoldable pub tame : List ℤ
tame =
    (16, 0, 0, 0) ⨾ (17, 0, 0, 0) ⨾ (9, 7, 0, 0) ⨾ (1, 0, 0, 0) ⨾ (20, 2, 3, 0) ⨾ (38, 4, 0, 0) ⨾ (37, 0, 3, 0)
    ⨾ (36, 1, 6, 5) ⨾ (34, 7, 7, 0) ⨾ (48, 0, 8, 0) ⨾ []

pub tame_0 : let m = mended tame 88 22 in (m.number ≡ 0) × (m.copied ≡ 12)
unfolding tame ◌⨾◌ row row_of lowest linked row_fault_within length_test script_test each part_sum copies origins size capped_at capped_from capped_total places renewed place_of written renamed part_places new_word new_table Reached.outside targets uncut sweep reached among reached_rows escapes part_fault mark_fault part_test mark_test Mended.too_long size_test mend_verdict mended
tame_0 = (refl, refl)

abbrev pub tame_left : Outcome
tame_left = outcome (new_table tame) 512 1536

pub tame_planned : (tame_left.answer.number ≡ 0) × (tame_left.answer.conditions ≡ 7)
unfolding tame outcome_within outcome_for verdict_within row_test_within unlinked_test target_test reading_test nesting_test misread misreads nesting expr formula stmt expr_at formula_at stmt_at tree conditions walk wp divisors divisorsᶠ subst_expr subst_formula list_words all_lines line_words expr_words formula_words ◌⨾◌ row row_of lowest linked row_fault_within length_test script_test each part_sum copies origins size capped_at capped_from capped_total places renewed place_of written renamed part_places new_word new_table Reached.outside targets uncut sweep reached among reached_rows escapes part_fault mark_fault part_test mark_test Mended.too_long size_test mend_verdict mended
tame_planned = (refl, refl)

tame_valid : AllValid whole (conditions (tree (new_table tame)))
unfolding tame value holds outcome_within outcome_for verdict_within row_test_within unlinked_test target_test reading_test nesting_test misread misreads nesting expr formula stmt expr_at formula_at stmt_at tree conditions walk wp divisors divisorsᶠ subst_expr subst_formula list_words all_lines line_words expr_words formula_words ◌⨾◌ row row_of lowest linked row_fault_within length_test script_test each part_sum copies origins size capped_at capped_from capped_total places renewed place_of written renamed part_places new_word new_table Reached.outside targets uncut sweep reached among reached_rows escapes part_fault mark_fault part_test mark_test Mended.too_long size_test mend_verdict mended
tame_valid = (λ s. tt, (λ s. tt, (λ s. tt, (λ s. tt, (λ s. tt, (λ s. tt, (λ s. tt, tt)))))))

pub tame_list : ListValid whole (take tame_left.answer.words tame_left.list)
tame_list cs e =
    subst (λ (l : List Condition). AllValid whole l)
    (some_inj (sym (planned_list (new_table tame) 512 1536 tame_planned.0).reads ∙ e)) tame_valid

-- every run of the old script keeps the promise
pub tame_promised : (s : State) → T (holds whole s (tree tame).pre) → TotalCorrectness whole (tree tame) s
tame_promised = Mending.proved_through tame 88 22 tame_0.0 whole 512 1536 tame_planned.0 tame_list

-- ---- 13 and 14

-- the mark of the loop at row 6, in its body and in the postcondition
unfoldable pub escaping : List ℤ
escaping =
    (16, 0, 0, 0) ⨾ (1, 1, 0, 0) ⨾ (9, 6, 0, 0) ⨾ (18, 2, 1, 0) ⨾ (38, 3, 0, 0) ⨾ (37, 0, 1, 0) ⨾ (36, 0, 5, 4)
    ⨾ (48, 0, 6, 3) ⨾ []

pub outside : WellShaped escaping × Lowest (Escaping escaping) (rows escaping) 2
unfolding escaping ◌⨾◌ row row_of lowest linked row_fault_within length_test script_test each part_sum copies origins size capped_at capped_from capped_total places renewed place_of written renamed part_places new_word new_table Reached.outside targets uncut sweep reached among reached_rows escapes part_fault mark_fault part_test mark_test Mended.too_long size_test mend_verdict mended
outside = (Mending.outside_exact escaping 256 64 2).0 (refl, refl)

pub too_long : WellShaped looped × ((q : ℕ) → q < rows looped → ¬ Escaping looped q) × TooLong looped 87 22
unfolding looped ◌⨾◌ row row_of lowest linked row_fault_within length_test script_test each part_sum copies origins size capped_at capped_from capped_total places renewed place_of written renamed part_places new_word new_table Reached.outside targets uncut sweep reached among reached_rows escapes part_fault mark_fault part_test mark_test Mended.too_long size_test mend_verdict mended
too_long = (Mending.too_long_exact looped 87 22).0 (refl, refl)
