-- What is no entry of a node, at accepted tables: nothing for a div or mod, a part's row for a node with a word of its own, a row
-- for a leaf, its own row for a negation or for a sum with one part that divides. What is not read from an entry. Assumes nothing.
use Rattle.std.specs.Prelude.{◌≡◌, refl, true, false, List, [], ◌∷◌, ℕ, ◌+◌, ℤ, pos}
use Rattle.std.proofs.Common.{sym, ap, subst, ◌∙◌, arith as linear, lit<, lit≤}
use Rattle.std.proofs.lemmas.Bool.{false≢true}
use Rattle.script.specs.Conditions.{divisors}
use Rattle.script.specs.Words.{expr_words, formula_words}
use Rattle.script.specs.Rows.{row, row_of}
use Rattle.script.specs.Trees.{expr, formula, stmt, expr_at, formula_at, stmt_at, tree, nesting}
use Rattle.script.specs.Refusals.{verdict, verdict_within, accepted, lowest, row_fault_within, linked, misread, misreads}
use Rattle.script.specs.Refusals.{length_test, row_test_within, script_test, unlinked_test, target_test, reading_test, nesting_test}
use Rattle.script.specs.Computed.{◌⨾◌}
use Rattle.script.specs.DivisionFigures.{three_divisors}
use Rattle.theorems.specs.Unchanged.{stands}
use Rattle.following.specs.Follow.{row_on}
use Rattle.dividing.specs.Nodes.{divisors_at}
use Rattle.dividing.specs.Sizes.{size}
use Rattle.dividing.specs.Divided.{marked, Source, Entry, nothing, from}

-- ---- (v1 div v2) mod (v3 div v4): row 2 is v2, row 3 its first part, row 7 the mod

division_left_out : Entry three_divisors 7 0 → ⊥
unfolding three_divisors ◌⨾◌ divisors_at row row_of expr_at formula_at expr divisors
division_left_out (nothing i h) = false≢true (sym h)
division_left_out (from s i h) = omega linear

leaf_with_source : Entry three_divisors 2 3 → ⊥
unfolding three_divisors ◌⨾◌ divisors_at row row_of expr_at formula_at expr divisors
leaf_with_source (nothing i h) = omega linear
leaf_with_source (from s i h) = false≢true (sym (ap stands h.same) ∙ h.stood)

-- s + 1 is the entry of row r
source_of : {t : List ℤ} {r e : ℕ} → (s : ℕ) → e ≡ s + 1 → Entry t r e → Source t r s
source_of s k (nothing i h) = absurd (omega linear)
source_of {t} {r} s k (from m i h) = subst (λ (n : ℕ). Source t r n) (omega linear) h

part_for_the_node : Entry three_divisors 7 4 → ⊥
unfolding three_divisors ◌⨾◌ divisors_at row row_of expr_at formula_at expr divisors expr_words formula_words
part_for_the_node e = let i = ap size (source_of 3 refl e).same in omega linear

-- ---- v0 := -(1 div v1) + 1: row 3 is the div, row 4 the negation, row 6 the sum

unfoldable passed_over : List ℤ
passed_over =
    (16, 0, 0, 0) ⨾ (1, 1, 0, 0) ⨾ (2, 1, 0, 0) ⨾ (6, 1, 2, 0) ⨾ (8, 3, 0, 0) ⨾ (1, 1, 0, 0) ⨾ (3, 4, 5, 0) ⨾ (33, 0, 6, 0)
    ⨾ (16, 0, 0, 0) ⨾ (48, 0, 7, 8) ⨾ []

accepted_here : verdict passed_over ≡ accepted
unfolding passed_over ◌⨾◌ verdict_within length_test row_test_within script_test unlinked_test target_test reading_test nesting_test
    lowest row_fault_within linked misread misreads row row_of expr formula stmt expr_at formula_at stmt_at tree nesting
accepted_here = refl

-- the right one
div_for_both : Entry passed_over 4 4 × Entry passed_over 6 4
unfolding passed_over ◌⨾◌ divisors_at row row_of expr_at formula_at expr divisors expr_words formula_words
div_for_both = (
  from 3 refl (record { within = lit≤ tt; node = tt; same = refl; stood = refl; own = (lit< tt, (lit< tt, tt)) }),
  from 3 refl (record { within = lit≤ tt; node = tt; same = refl; stood = refl; own = (lit< tt, (lit< tt, tt)) }),
)

negation_for_itself : Entry passed_over 4 5 → ⊥
unfolding passed_over ◌⨾◌ divisors_at row row_of expr_at formula_at expr divisors expr_words formula_words
negation_for_itself e = let h = (source_of 4 refl e).own.0 in omega linear

sum_for_itself : Entry passed_over 6 7 → ⊥
unfolding passed_over ◌⨾◌ divisors_at row row_of expr_at formula_at expr divisors expr_words formula_words
sum_for_itself e = let h = (source_of 6 refl e).own.0 in omega linear

-- ---- two entries: row 0 divides, and is its own source; row 1 does not

abbrev entries : List ℤ
entries = pos 1 ∷ pos 0 ∷ []

row_0_unmarked : marked entries 0 ≡ false → ⊥
row_0_unmarked e = false≢true (sym e)

all_marked : marked entries 1 ≡ true → ⊥
all_marked e = false≢true e

entry_for_the_source : 1 + 1 ≡ row_on entries 0 → ⊥
entry_for_the_source e = omega linear
