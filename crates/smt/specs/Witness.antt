-- The hypotheses of `verdicts_to_runs` can hold, with a loop whose body is begun: 01's example A is planned in 98 words, and its
-- four conditions are true in all states (`valid`), so for each of them a text is written whose script has no model (`refuted`).
-- So every run from a start with 0 <= v0 keeps the promise (`runs`); from the start with v0 = 1 the body is begun (`run`).
-- Assumes nothing.
use Rattle.std.specs.Prelude.{ℕ, zero, suc, ◌-◌, ◌<◌, ◌≡◌, refl, Bool, true, false, ◌&&◌, ◌||◌, List, [], ◌∷◌, T, eqb, ltb, ℤ, pos, negsuc, ◌-ℤ◌, take}
use Rattle.std.proofs.Common.{arith as linear, sym, ◌∙◌, subst, eqb-true, le-leb, lt-ltb, le-ltb}
use Rattle.std.proofs.Math.Bool as Bool
use Rattle.std.proofs.Math.Option.{some}
use Rattle.std.specs.Int.Signed.{lt_z, le_z}
use Rattle.script.specs.declared.Operator.TheVariants.{Minus}
use Rattle.script.specs.declared.Relation.TheVariants.{Less, AtMost, Equal}
use Rattle.script.specs.declared.Connective.TheVariants.{Implies}
use Rattle.script.specs.declared.Rule.TheVariants.{Exit, Floor, Step, Main}
use Rattle.script.specs.Computed.{◌⨾◌, example, example_a}
use Rattle.script.specs.Syntax.{const, var, arith, Formula, cmp, join, Stmt, assign, Tree}
use Rattle.script.specs.Meaning.{State, whole, eqZ, value, holds, defined, definedᶠ}
use Rattle.script.specs.Run.{begin, again, at, test, first_step, step_of, after, start, TotalCorrectness}
use Rattle.script.specs.Run as Run
use Rattle.script.specs.Rows.{row, row_of}
use Rattle.script.specs.Trees.{expr, formula, stmt, expr_at, formula_at, stmt_at, tree, nesting}
use Rattle.script.specs.Refusals.{lowest, row_fault_within, linked, misread, misreads, length_test, row_test_within, script_test, unlinked_test, target_test, reading_test, nesting_test, verdict_within}
use Rattle.script.specs.Generated.{outcome, outcome_for, outcome_within}
use Rattle.script.specs.Conditions.{Condition, condition, exit, floor, step, conditions, walk, wp, divisors, divisorsᶠ, subst_expr, subst_formula}
use Rattle.script.specs.Words.{list_words, all_lines, line_words, expr_words, formula_words}
use Rattle.script.specs.Listing.{read_list, read_expr_within, read_formula_within, spelled_within, found_within, line_before_within, lines_before_within, lines_within}
use Rattle.script.specs.Promise.{AllValid, ListValid}
use Rattle.theorems.specs.Options.{some_inj}
use Rattle.theorems.specs.Truths.{implies_true}
use Rattle.smt.specs.Refutations.{Refuted, refuted_iff, verdicts_to_runs}

-- ---- the list

abbrev invariant : Formula
invariant = cmp AtMost (const (pos 0)) (var 0)

abbrev guard : Formula
guard = cmp Less (const (pos 0)) (var 0)

abbrev body : Stmt
body = assign 0 (arith Minus (var 0) (const (pos 1)))

abbrev pub claims : List Condition
claims =
    condition Exit 15 0 (exit guard invariant (cmp Equal (var 0) (const (pos 0))))
    ∷ condition Floor 15 0 (floor guard invariant (var 0))
    ∷ condition Step 15 0 (step 15 guard invariant (var 0) body)
    ∷ condition Main 19 0 (join Implies invariant invariant) ∷ []

-- the words left
abbrev pub words : List ℤ
words = take (outcome example_a 98 282).answer.words (outcome example_a 98 282).list

pub planned : ((outcome example_a 98 282).answer.number ≡ 0) × ((outcome example_a 98 282).answer.conditions ≡ 4)
    × (read_list words ≡ some claims)
unfolding example_a example ◌⨾◌ outcome_within outcome_for verdict_within length_test row_test_within script_test unlinked_test target_test reading_test nesting_test lowest row_fault_within linked misread misreads nesting row row_of expr formula stmt expr_at formula_at stmt_at tree conditions walk wp divisors divisorsᶠ subst_expr subst_formula list_words all_lines line_words expr_words formula_words read_expr_within read_formula_within spelled_within found_within line_before_within lines_before_within lines_within read_list
planned = (refl, refl, refl)

-- ---- its conditions are true in all states

exit_true : (v : ℤ) → T (Bool.not (le_z (pos 0) v && Bool.not (lt_z (pos 0) v)) || eqZ v (pos 0))
exit_true (pos zero) = tt
exit_true (pos (suc n)) = rw (le-leb 0 (suc n) (omega linear), lt-ltb 0 (suc n) (omega linear)) tt
exit_true (negsuc n) = tt

floor_true : (v : ℤ) → T (Bool.not (le_z (pos 0) v && lt_z (pos 0) v) || le_z (pos 0) v)
floor_true (pos n) = rw (le-leb 0 n (omega linear)) (implies_true (ltb 0 n))
floor_true (negsuc n) = tt

step_true : (v m : ℤ)
    → T (Bool.not ((le_z (pos 0) v && lt_z (pos 0) v) && eqZ v m) || (le_z (pos 0) (v -ℤ pos 1) && lt_z (v -ℤ pos 1) m))
step_true (pos zero) m = tt
step_true (negsuc n) m = tt
step_true (pos (suc n)) (negsuc k) = rw (le-leb 0 (suc n) (omega linear), lt-ltb 0 (suc n) (omega linear)) tt
step_true (pos (suc n)) (pos k) =
    let less = le-ltb (suc n) 1 (omega linear) in
    rw (le-leb 0 (suc n) (omega linear), lt-ltb 0 (suc n) (omega linear), less, le-leb 0 (suc n - 1) (omega linear))
    (at_test (eqb (suc n) k) refl)
  where
    at_test : (b : Bool) → eqb (suc n) k ≡ b → T (Bool.not b || ltb (suc n - 1) k)
    at_test false e = tt
    at_test true e = let same = eqb-true (suc n) k e in rw (lt-ltb (suc n - 1) k (omega linear)) tt

itself : (b : Bool) → T (Bool.not b || b)
itself true = tt
itself false = tt

valid : AllValid whole claims
unfolding holds value wp divisors subst_expr subst_formula
valid = (
  λ s. exit_true (s.var 0),
  (λ s. floor_true (s.var 0), (λ s. step_true (s.var 0) (s.mark 15), (λ s. itself (le_z (pos 0) (s.var 0)), tt))),
)

pub list_valid : ListValid whole words
list_valid cs r = subst (AllValid whole) (some_inj (sym planned.2 ∙ r)) valid

-- ---- so each is refuted, and the promise is kept

pub refuted : (i : ℕ) → i < (outcome example_a 98 282).answer.conditions → Refuted words i
refuted i l = (refuted_iff words claims planned.2).1 valid i (rw planned.1 at l)

pub runs : (s : State) → T (holds whole s (tree example_a).pre) → TotalCorrectness whole (tree example_a) s
runs = verdicts_to_runs example_a 98 282 planned.0 refuted

-- ---- with a start, from which the body is begun

-- every variable is 1
unfoldable pub ones : State
ones = record { var = λ v. pos 1; mark = λ m. pos 0 }

pub begins : T (holds whole ones (tree example_a).pre)
unfolding example_a example ones ◌⨾◌ row row_of expr formula stmt expr_at formula_at stmt_at tree holds value
begins = tt

-- after one step from there, the test, the body is begun for the first time
abbrev pub BodyBegun : Tree → Type 0
BodyBegun t = (s : State) × (after whole 1 (start t ones) ≡ at (begin body ∷ again 15 guard invariant (var 0) body (pos 1) 1 ∷ []) s)

pub is_begun : BodyBegun (tree example_a)
unfolding example_a example ones ◌⨾◌ row row_of expr formula stmt expr_at formula_at stmt_at tree after Run.step step_of first_step test holds value defined definedᶠ
is_begun = (_, refl)

pub run : TotalCorrectness whole (tree example_a) ones × BodyBegun (tree example_a)
run = (runs ones begins, is_begun)
