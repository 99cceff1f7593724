-- The hypotheses of `generated_through`, `solved_through` and `verdicts_through` can hold, with a list that does shorten
-- and a loop whose body is begun: for `rows`, a list of 80 words is left, and its shortened list has 61 (`shortened`).
-- The four shortened conditions are true in all states (`valid`), so for each of them a text is written whose script has
-- no model (`refuted`), and every run keeps the promise (`promised`, `solved_promised`, `refuted_promised`); from the
-- start with v0 = 1 the body is begun (`run`). Assumes nothing.
use Rattle.std.specs.Prelude.{ℕ, zero, suc, ◌-◌, ◌<◌, ◌≡◌, refl, Bool, true, false, ◌&&◌, ◌||◌, List, [], ◌∷◌, T, eqb, ltb, ℤ, pos, negsuc, ◌-ℤ◌, take}
use Rattle.std.proofs.Common.{arith as linear, sym, ◌∙◌, subst, eqb-true, le-leb, lt-ltb, le-ltb}
use Rattle.std.proofs.Math.Bool as Bool
use Rattle.std.proofs.Math.Option.{some}
use Rattle.std.specs.Int.Signed.{lt_z, le_z}
use Rattle.script.specs.declared.Operator.TheVariants.{Minus}
use Rattle.script.specs.declared.Relation.TheVariants.{Less, AtMost, Equal}
use Rattle.script.specs.declared.Connective.TheVariants.{And, Implies}
use Rattle.script.specs.declared.Rule.TheVariants.{Exit, Floor, Step, Main}
use Rattle.script.specs.Computed.{◌⨾◌}
use Rattle.script.specs.Syntax.{Expr, const, var, mark, arith, Formula, truth, cmp, not, join, Stmt, assign, Tree}
use Rattle.script.specs.Meaning.{State, whole, eqZ, value, holds, defined, definedᶠ}
use Rattle.script.specs.Run.{begin, again, at, test, first_step, step_of, after, start, TotalCorrectness}
use Rattle.script.specs.Run as Run
use Rattle.script.specs.Rows.{row, row_of}
use Rattle.script.specs.Trees.{expr, formula, stmt, expr_at, formula_at, stmt_at, tree, nesting}
use Rattle.script.specs.Refusals.{lowest, row_fault_within, linked, misread, misreads, length_test, row_test_within, script_test, unlinked_test, target_test, reading_test, nesting_test, verdict_within}
use Rattle.script.specs.Generated.{Outcome, outcome, outcome_for, outcome_within}
use Rattle.script.specs.Conditions.{Condition, condition, conditions, walk, wp, divisors, divisorsᶠ, subst_expr, subst_formula}
use Rattle.script.specs.Words.{list_words, all_lines, line_words, expr_words, formula_words}
use Rattle.script.specs.Listing.{read_list, read_expr_within, read_formula_within, spelled_within, found_within, line_before_within, lines_before_within, lines_within}
use Rattle.script.specs.Promise.{AllValid, ListValid}
use Rattle.theorems.specs.Options.{some_inj}
use Rattle.smt.specs.Verdicts.{unsatisfiable_iff}
use Rattle.smt.specs.Refutations.{Refuted}
use Rattle.smt.specs.Witness.{ones}
use Rattle.shortening.specs.Simplify.{order, arith_node, join_node, not_node, shorten}
use Rattle.shortening.specs.Shortened.{Written, written, used_words}
use Rattle.shortening.specs.Through.{generated_through, solved_through, verdicts_iff, verdicts_through}

-- ---- the table, its list and its shortened list

-- pre true; while 0 < v0 keep true fall v0 - 0 do v0 := v0 - 1 end; post v0 <= 0
unfoldable pub rows : List ℤ
rows =
    (16, 0, 0, 0) ⨾ (1, 0, 0, 0) ⨾ (2, 0, 0, 0) ⨾ (18, 1, 2, 0) ⨾ (16, 0, 0, 0) ⨾ (2, 0, 0, 0) ⨾ (1, 0, 0, 0) ⨾ (4, 5, 6, 0)
    ⨾ (37, 4, 7, 0) ⨾ (2, 0, 0, 0) ⨾ (1, 1, 0, 0) ⨾ (4, 9, 10, 0) ⨾ (33, 0, 11, 0) ⨾ (36, 3, 8, 12)
    ⨾ (2, 0, 0, 0) ⨾ (1, 0, 0, 0) ⨾ (19, 14, 15, 0) ⨾ (48, 0, 13, 16) ⨾ []

abbrev pub left : Outcome
left = outcome rows 80 228

abbrev pub old_words : List ℤ
old_words = take left.answer.words left.list

abbrev pub short : Written
short = written order old_words 61

abbrev guard : Formula
guard = cmp Less (const (pos 0)) (var 0)

abbrev one_less : Expr
one_less = arith Minus (var 0) (const (pos 1))

-- the shortened conditions: no true and no - 0 is left but in the last, which is true
abbrev claims : List Condition
claims =
    condition Exit 13 0 (join Implies (not guard) (cmp AtMost (var 0) (const (pos 0))))
    ∷ condition Floor 13 0 (join Implies guard (cmp AtMost (const (pos 0)) (var 0)))
    ∷ condition Step 13 0 (join Implies (join And guard (cmp Equal (var 0) (mark 13))) (cmp Less one_less (mark 13)))
    ∷ condition Main 17 0 (truth true) ∷ []

pub planned : (left.answer.number ≡ 0) × (left.answer.words ≡ 80) × (left.answer.conditions ≡ 4)
unfolding rows ◌⨾◌ outcome_within outcome_for verdict_within length_test row_test_within script_test unlinked_test target_test reading_test nesting_test lowest row_fault_within linked misread misreads nesting row row_of expr formula stmt expr_at formula_at stmt_at tree conditions walk wp divisors divisorsᶠ subst_expr subst_formula list_words all_lines line_words expr_words formula_words
planned = (refl, refl, refl)

pub shortened : (short.number ≡ 0) × (short.used ≡ 61) × (read_list (used_words short) ≡ some claims)
unfolding rows ◌⨾◌ outcome_within outcome_for verdict_within length_test row_test_within script_test unlinked_test target_test reading_test nesting_test lowest row_fault_within linked misread misreads nesting row row_of expr formula stmt expr_at formula_at stmt_at tree conditions walk wp divisors divisorsᶠ subst_expr subst_formula list_words all_lines line_words expr_words formula_words read_expr_within read_formula_within spelled_within found_within line_before_within lines_before_within lines_within read_list written shorten arith_node join_node not_node
shortened = (refl, refl, refl)

-- ---- the shortened conditions are true in all states

exit_true : (v : ℤ) → T (Bool.not (Bool.not (lt_z (pos 0) v)) || le_z v (pos 0))
exit_true (pos zero) = tt
exit_true (pos (suc n)) = rw (lt-ltb 0 (suc n) (omega linear)) tt
exit_true (negsuc n) = tt

floor_true : (v : ℤ) → T (Bool.not (lt_z (pos 0) v) || le_z (pos 0) v)
floor_true (pos zero) = tt
floor_true (pos (suc n)) = rw (lt-ltb 0 (suc n) (omega linear), le-leb 0 (suc n) (omega linear)) tt
floor_true (negsuc n) = tt

step_true : (v m : ℤ) → T (Bool.not (lt_z (pos 0) v && eqZ v m) || lt_z (v -ℤ pos 1) m)
step_true (pos zero) m = tt
step_true (negsuc n) m = tt
step_true (pos (suc n)) (negsuc k) = rw (lt-ltb 0 (suc n) (omega linear)) tt
step_true (pos (suc n)) (pos k) =
    rw (lt-ltb 0 (suc n) (omega linear), le-ltb (suc n) 1 (omega linear)) (at_test (eqb (suc n) k) refl)
  where
    at_test : (b : Bool) → eqb (suc n) k ≡ b → T (Bool.not b || ltb (suc n - 1) k)
    at_test false e = tt
    at_test true e = let same = eqb-true (suc n) k e in rw (lt-ltb (suc n - 1) k (omega linear)) tt

valid : AllValid whole claims
unfolding holds value
valid = (λ s. exit_true (s.var 0), (λ s. floor_true (s.var 0), (λ s. step_true (s.var 0) (s.mark 13), (λ s. tt, tt))))

pub list_valid : ListValid whole (used_words short)
list_valid cs r = subst (AllValid whole) (some_inj (sym shortened.2 ∙ r)) valid

-- so for each a text is written whose script has no model
pub refuted : (i : ℕ) → i < left.answer.conditions → Refuted (used_words short) i
refuted = (verdicts_iff order rows 80 228 61 planned.0 shortened.0).1 list_valid

-- ---- so the promise is kept

pub promised : (s : State) → T (holds whole s (tree rows).pre) → TotalCorrectness whole (tree rows) s
promised = generated_through order rows 80 228 61 planned.0 shortened.0 list_valid

pub solved_promised : (s : State) → T (holds whole s (tree rows).pre) → TotalCorrectness whole (tree rows) s
solved_promised =
    solved_through order rows 80 228 61 planned.0 shortened.0 λ cs r. (unsatisfiable_iff cs).1 (list_valid cs r)

pub refuted_promised : (s : State) → T (holds whole s (tree rows).pre) → TotalCorrectness whole (tree rows) s
refuted_promised = verdicts_through order rows 80 228 61 planned.0 shortened.0 refuted

-- ---- with a start, from which the body is begun

pub begins : T (holds whole ones (tree rows).pre)
unfolding rows ones ◌⨾◌ row row_of expr formula stmt expr_at formula_at stmt_at tree holds value
begins = tt

abbrev body : Stmt
body = assign 0 one_less

-- after one step from there, the test, the body is begun for the first time
abbrev pub BodyBegun : Tree → Type 0
BodyBegun t =
    (s : State)
    × (after whole 1 (start t ones)
    ≡ at (begin body ∷ again 13 guard (truth true) (arith Minus (var 0) (const (pos 0))) body (pos 1) 1 ∷ []) s)

pub is_begun : BodyBegun (tree rows)
unfolding rows ones ◌⨾◌ row row_of expr formula stmt expr_at formula_at stmt_at tree after Run.step step_of first_step test holds value defined definedᶠ
is_begun = (_, refl)

pub run : TotalCorrectness whole (tree rows) ones × BodyBegun (tree rows)
run = (promised ones begins, is_begun)
