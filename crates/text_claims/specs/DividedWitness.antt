-- The hypotheses of `text_runs` and of `refuted_text_runs` can hold for a script that divides, in an assigned expression and in the
-- guard of a loop whose body is begun: its five conditions, one of kind 5 among them, are true in all states; so every run from a
-- start with 0 < v1 keeps the promise, and divides by no zero (`promised`, `refuted_promised`); there is a start, from which the body
-- is begun (`run`). Assumes nothing.
use Rattle.std.specs.Prelude.{ℕ, zero, suc, ◌+◌, ◌-◌, ◌*◌, ◌/◌, ◌%◌, ◌≤◌, ◌<◌, ◌≡◌, refl, Bool, true, false, ◌&&◌, ◌||◌, List, [], ◌∷◌, T, ltb, ℤ, pos, negsuc, ◌-ℤ◌}
use Rattle.std.proofs.Math.Nat.{div-add-mod}
use Rattle.std.proofs.Common.{mod-lt, arith as linear, sym, ◌∙◌, subst, ltb-false, ne_eqb, nltb→le, lt→ltb, le→leb}
use Rattle.std.proofs.Math.Bool as Bool
use Rattle.std.proofs.Math.Option.{some}
use Rattle.std.specs.Int.Signed.{lt_z, le_z}
use Rattle.script.specs.declared.Operator.TheVariants.{Minus, Div}
use Rattle.script.specs.declared.Relation.TheVariants.{Less, Unequal}
use Rattle.script.specs.declared.Connective.TheVariants.{Implies}
use Rattle.script.specs.declared.Rule.TheVariants.{Exit, Floor, Step, Main, Guard}
use Rattle.script.specs.Computed.{◌⨾◌}
use Rattle.script.specs.Syntax.{const, var, arith, Formula, cmp, join, Stmt, assign, Tree}
use Rattle.script.specs.Meaning.{State, whole, divZ, eqZ, value, holds, defined, definedᶠ}
use Rattle.script.specs.Run.{begin, again, at, test, first_step, step_of, after, start, TotalCorrectness}
use Rattle.script.specs.Run as Run
use Rattle.script.specs.Rows.{row, row_of}
use Rattle.script.specs.Trees.{expr, formula, stmt, expr_at, formula_at, stmt_at, tree, nesting}
use Rattle.script.specs.Refusals.{lowest, row_fault_within, linked, misread, misreads, length_test, row_test_within, script_test, unlinked_test, target_test, reading_test, nesting_test, verdict_within}
use Rattle.script.specs.Generated.{outcome_for, outcome_within}
use Rattle.script.specs.Conditions.{Condition, condition, exit, floor, step, conditions, walk, wp, divisors, divisorsᶠ, subst_expr, subst_formula}
use Rattle.script.specs.Words.{list_words, all_lines, line_words, expr_words, formula_words}
use Rattle.script.specs.Listing.{read_list, read_expr_within, read_formula_within, spelled_within, found_within, line_before_within, lines_before_within, lines_within}
use Rattle.script.specs.Promise.{AllValid, ListValid}
use Rattle.theorems.specs.Options.{some_inj}
use Rattle.theorems.specs.Truths.{is_true, both, pair}
use Rattle.theorems.specs.Tests.{equal_numbers}
use Rattle.smt.specs.Refutations.{Refuted, refuted_iff}
use Rattle.smt.specs.Witness.{ones}
use Rattle.grammar.specs.Scanning.{bytes, token_at, scan_from, scan}
use Rattle.grammar.specs.Grammar.{Phrase}
use Rattle.grammar.specs.Counts.{size, roots}
use Rattle.grammar.specs.Rows.{table}
use Rattle.grammar.specs.Meaning.{flat, text_rows, text_table, text_tree}
use Rattle.grammar.specs.Automaton.{reduce}
use Rattle.grammar.specs.Reader.{read}
use Rattle.grammar.specs.Ranges.{depth}
use Rattle.grammar.specs.Outcome.{given, out_of_range, outcome, stuck}
use Rattle.text_claims.specs.Reading.{Reading}
use Rattle.text_claims.specs.Runs.{KeepsPromise, generated, Planned, list_left, has_reading, same_script, text_runs, refuted_text_runs}

-- ---- the text, its rows and its conditions

abbrev pub text : List ℕ
text = bytes "pre 0 < v1; v0 := v2 div v1; while 0 < v0 div v1 keep 0 < v1 fall v0 do v0 := v0 - v1 end; post v0 < v1"

unfoldable pub rows : List ℤ
rows =
    (1, 0, 0, 0) ⨾ (2, 1, 0, 0) ⨾ (18, 0, 1, 0) ⨾ (2, 2, 0, 0) ⨾ (2, 1, 0, 0) ⨾ (6, 3, 4, 0) ⨾ (33, 0, 5, 0)
    ⨾ (1, 0, 0, 0) ⨾ (2, 0, 0, 0) ⨾ (2, 1, 0, 0) ⨾ (6, 8, 9, 0) ⨾ (18, 7, 10, 0) ⨾ (1, 0, 0, 0) ⨾ (2, 1, 0, 0) ⨾ (18, 12, 13, 0)
    ⨾ (2, 0, 0, 0) ⨾ (37, 14, 15, 0) ⨾ (2, 0, 0, 0) ⨾ (2, 1, 0, 0) ⨾ (4, 17, 18, 0) ⨾ (33, 0, 19, 0) ⨾ (36, 11, 16, 20)
    ⨾ (34, 6, 21, 0) ⨾ (2, 0, 0, 0) ⨾ (2, 1, 0, 0) ⨾ (18, 23, 24, 0) ⨾ (48, 2, 22, 25) ⨾ []

is_read : outcome 128 text ≡ given rows
unfolding rows ◌⨾◌ outcome scan scan_from token_at stuck out_of_range read reduce depth text_table text_rows table size roots flat
is_read = refl

-- the precondition and the invariant
abbrev positive : Formula
positive = cmp Less (const (pos 0)) (var 1)

-- D of the assigned expression and of the guard
abbrev divisor_unequal : Formula
divisor_unequal = cmp Unequal (var 1) (const (pos 0))

abbrev guard : Formula
guard = cmp Less (const (pos 0)) (arith Div (var 0) (var 1))

abbrev body : Stmt
body = assign 0 (arith Minus (var 0) (var 1))

abbrev claims : List Condition
claims =
    condition Guard 21 0 (join Implies positive divisor_unequal)
    ∷ condition Exit 21 0 (exit guard positive (cmp Less (var 0) (var 1)))
    ∷ condition Floor 21 0 (floor guard positive (var 0))
    ∷ condition Step 21 0 (step 21 guard positive (var 0) body)
    ∷ condition Main 26 0 (join Implies positive (wp (assign 0 (arith Div (var 2) (var 1))) positive)) ∷ []

is_planned : Planned (generated rows 512 1536) × ((generated rows 512 1536).answer.conditions ≡ 5)
    × (read_list (list_left (generated rows 512 1536)) ≡ some claims)
unfolding rows ◌⨾◌ outcome_within outcome_for verdict_within length_test row_test_within script_test unlinked_test target_test reading_test nesting_test lowest row_fault_within linked misread misreads nesting row row_of expr formula stmt expr_at formula_at stmt_at tree conditions walk wp divisors divisorsᶠ subst_expr subst_formula list_words all_lines line_words expr_words formula_words read_expr_within read_formula_within spelled_within found_within line_before_within lines_before_within lines_within read_list
is_planned = (refl, refl, refl)

-- ---- they are true in all states; x, d and m are the values of v0, v1 and the mark

implies : (a b : Bool) → (T a → T b) → T (Bool.not a || b)
implies true b f = f tt
implies false b f = tt

no_zero : (d : ℤ) → T (lt_z (pos 0) d) → T (Bool.not (eqZ d (pos 0)))
no_zero (pos zero) h = h
no_zero (pos (suc n)) h = rw (ne_eqb (suc n) 0 (λ e. omega linear)) tt
no_zero (negsuc n) h = absurd h

no_quotient : (a n : ℕ) → a / suc n ≤ 0 → a < suc n
no_quotient a n = by_quotient (a / suc n) (div-add-mod a (suc n)) (mod-lt a {m = suc n} (omega linear))
  where
    by_quotient : (q : ℕ) → suc n * q + a % suc n ≡ a → a % suc n < suc n → q ≤ 0 → a < suc n
    by_quotient zero e l h = omega linear
    by_quotient (suc q) e l h = absurd (omega linear)

left : (x d : ℤ) → T (lt_z (pos 0) d) → T (Bool.not (lt_z (pos 0) (divZ x d))) → T (lt_z x d)
left x (negsuc n) h k = absurd h
left x (pos zero) h k = absurd h
left (negsuc a) (pos (suc n)) h k = tt
left (pos a) (pos (suc n)) h k = lt→ltb a (suc n) (no_quotient a n (nltb→le 0 (a / suc n) k))

no_lower : (x d : ℤ) → T (lt_z (pos 0) d) → T (lt_z (pos 0) (divZ x d)) → T (le_z (pos 0) x)
no_lower (pos a) d h k = le→leb 0 a (omega linear)
no_lower (negsuc a) (negsuc n) h k = absurd h
no_lower (negsuc a) (pos zero) h k = absurd h
no_lower (negsuc a) (pos (suc n)) h k = absurd k

falls : (x d : ℤ) → T (lt_z (pos 0) d) → T (lt_z (x -ℤ d) x)
falls x (negsuc n) h = absurd h
falls x (pos zero) h = absurd h
falls (negsuc k) (pos (suc n)) h = lt→ltb k (suc (k + n)) (omega linear)
falls (pos a) (pos (suc n)) h = by_test (ltb a (suc n)) refl
  where
    by_test : (b : Bool) → ltb a (suc n) ≡ b → T (lt_z (pos a -ℤ pos (suc n)) (pos a))
    by_test true e = rw e tt
    by_test false e = let far = ltb-false a (suc n) e in rw e (lt→ltb (a - suc n) a (omega linear))

guard_true : (d : ℤ) → T (Bool.not (lt_z (pos 0) d) || Bool.not (eqZ d (pos 0)))
guard_true d = implies (lt_z (pos 0) d) (Bool.not (eqZ d (pos 0))) (no_zero d)

exit_true : (x d : ℤ) → T (Bool.not (lt_z (pos 0) d && Bool.not (lt_z (pos 0) (divZ x d))) || lt_z x d)
exit_true x d =
    implies (lt_z (pos 0) d && Bool.not (lt_z (pos 0) (divZ x d))) (lt_z x d) λ h.
    let k = both (lt_z (pos 0) d) (Bool.not (lt_z (pos 0) (divZ x d))) h in
    left x d k.0 k.1

floor_true : (x d : ℤ) → T (Bool.not (lt_z (pos 0) d && lt_z (pos 0) (divZ x d)) || le_z (pos 0) x)
floor_true x d =
    implies (lt_z (pos 0) d && lt_z (pos 0) (divZ x d)) (le_z (pos 0) x) λ h.
    let k = both (lt_z (pos 0) d) (lt_z (pos 0) (divZ x d)) h in
    no_lower x d k.0 k.1

step_true : (x d m : ℤ) (b : Bool) → T (Bool.not ((lt_z (pos 0) d && b) && eqZ x m) || (lt_z (pos 0) d && lt_z (x -ℤ d) m))
step_true x d m b =
    implies ((lt_z (pos 0) d && b) && eqZ x m) (lt_z (pos 0) d && lt_z (x -ℤ d) m) λ h.
    let k = both (lt_z (pos 0) d && b) (eqZ x m) h in
    let p = (both (lt_z (pos 0) d) b k.0).0 in
    let same = equal_numbers x m (is_true (eqZ x m) k.1) in
    pair (lt_z (pos 0) d) (lt_z (x -ℤ d) m) p (subst (λ (y : ℤ). T (lt_z (x -ℤ d) y)) same (falls x d p))

main_true : (d : ℤ) → T (Bool.not (lt_z (pos 0) d) || (Bool.not (eqZ d (pos 0)) && lt_z (pos 0) d))
main_true d =
    implies (lt_z (pos 0) d) (Bool.not (eqZ d (pos 0)) && lt_z (pos 0) d) λ h.
    pair (Bool.not (eqZ d (pos 0))) (lt_z (pos 0) d) (no_zero d h) h

valid : AllValid whole claims
unfolding holds value wp divisors subst_expr subst_formula
valid = (
  λ s. guard_true (s.var 1),
  (
    λ s. exit_true (s.var 0) (s.var 1),
    (
      λ s. floor_true (s.var 0) (s.var 1),
      (
        λ s. step_true (s.var 0) (s.var 1) (s.mark 21) (lt_z (pos 0) (divZ (s.var 0) (s.var 1))),
        (λ s. main_true (s.var 1), tt),
      ),
    ),
  ),
)

list_valid : ListValid whole (list_left (generated rows 512 1536))
list_valid cs r = subst (AllValid whole) (some_inj (sym is_planned.2 ∙ r)) valid

-- so for each a text is written whose script has no model
refuted : (i : ℕ) → i < (generated rows 512 1536).answer.conditions → Refuted (list_left (generated rows 512 1536)) i
refuted i l = (refuted_iff _ claims is_planned.2).1 valid i (rw is_planned.1 at l)

-- ---- so the promise is kept

pub promised : (x : Phrase) → Reading text x → KeepsPromise whole (text_tree x)
promised = text_runs 128 text rows is_read 512 1536 is_planned.0 whole list_valid

pub refuted_promised : (x : Phrase) → Reading text x → KeepsPromise whole (text_tree x)
refuted_promised = refuted_text_runs 128 text rows is_read 512 1536 is_planned.0 refuted

begins : T (holds whole ones (tree rows).pre)
unfolding rows ones ◌⨾◌ row row_of expr formula stmt expr_at formula_at stmt_at tree holds value
begins = tt

-- after two steps from there, the assignment and the test, the body is begun for the first time
abbrev pub BodyBegun : Tree → Type 0
BodyBegun t = (s : State) × (after whole 2 (start t ones) ≡ at (begin body ∷ again 21 guard positive (var 0) body (pos 1) 1 ∷ []) s)

is_begun : BodyBegun (tree rows)
unfolding rows ones ◌⨾◌ row row_of expr formula stmt expr_at formula_at stmt_at tree after Run.step step_of first_step test holds value defined definedᶠ
is_begun = (_, refl)

pub run : (x : Phrase) × Reading text x × TotalCorrectness whole (text_tree x) ones × BodyBegun (text_tree x)
run =
    let h = has_reading 128 text rows is_read in
    let same = same_script 128 text rows is_read h.0 h.1 in
    let meets = subst (λ (t : Tree). T (holds whole ones t.pre)) same begins in
    (h.0, h.1, promised h.0 h.1 ones meets, subst BodyBegun same is_begun)
