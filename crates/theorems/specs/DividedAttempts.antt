-- 02, P5: a list that fitted before and is 12 now (`fitted_before`); and bodies that lack something of what P5 adds, each refuted by
-- demand 3 alone at one table: all that they list is true, and a run fails for a zero divisor. Left out at an assignment, an if
-- or a while, and nowhere else (`assigned_alone_by_3`, `tested_alone_by_3`, `guard_lost_by_3`); at all three, as before P5
-- (`former_by_3`); too weak at a connective, under an assignment, or in kind 5 (`short_circuit_by_3`, `first_side_only_by_3`,
-- `later_divisors_kept_by_3`, `guard_behind_itself_by_3`); at a while only where it is arrived at (`asked_on_arrival_by_3`).
-- Assumes nothing.
use Rattle.std.specs.Prelude.{zero, suc, ◌≤◌, ◌≡◌, refl, Bool, true, false, ◌&&◌, ◌||◌, List, [], T, ℤ, pos, negsuc, neg_ℤ, ◌-ℤ◌, length}
use Rattle.std.proofs.Common.{arith as linear, ne_eqb, lit≤}
use Rattle.std.proofs.Math.Bool as Bool
use Rattle.std.proofs.Math.Option.{some}
use Rattle.std.specs.Int.Signed.{le_z, lt_z}
use Rattle.script.specs.declared.Operator.TheVariants.{Minus, Div}
use Rattle.script.specs.declared.Relation.TheVariants.{Equal}
use Rattle.script.specs.declared.Connective.TheVariants.{And, Or}
use Rattle.script.specs.Syntax.{Expr, const, var, arith, neg, Formula, truth, cmp, join, skip, assign, branch, loop, Tree}
use Rattle.script.specs.Meaning.{eqZ, whole, value, holds, defined, definedᶠ}
use Rattle.script.specs.Run.{zero_divisor, step, step_of, first_step, test, after}
use Rattle.script.specs.Conditions.{Condition, conditions, walk, wp, divisors, divisorsᶠ, subst_expr, subst_formula}
use Rattle.script.specs.Words.{with_depth, list_words, all_lines, line_words, expr_words, formula_words}
use Rattle.script.specs.Rows.{row, row_of}
use Rattle.script.specs.Trees.{expr, formula, stmt, expr_at, formula_at, stmt_at, tree, nesting}
use Rattle.script.specs.Refusals.{lowest, row_fault_within, linked, misread, misreads, length_test, row_test_within, script_test, unlinked_test, target_test, reading_test, nesting_test, verdict_within}
use Rattle.script.specs.Generated.{refusal, outcome_for, outcome, outcome_within}
use Rattle.script.specs.Listing.{read_expr_within, read_formula_within, spelled_within, found_within, line_before_within, lines_before_within, lines_within, read_list}
use Rattle.script.specs.Promise.{AllValid}
use Rattle.script.specs.Computed.{◌⨾◌, zero_state}
use Rattle.theorems.specs.Truths.{implies_true}
use Rattle.theorems.specs.Unchanged.{wp₀, walk₀, conditions₀}
use Rattle.theorems.specs.NoDivision.{outcome₀}
use Rattle.theorems.specs.Bodies.{Body, Demanded, Lists, planned, Failing, lists_valid}
use Rattle.theorems.specs.WrongItems.{divisors_by, divisors_byᶠ}
use Rattle.theorems.specs.WrongRules.{wp_by, walk_by, conditions_by}
use Rattle.theorems.specs.WrongDivisors.{short_circuit, first_side_only, assigned_alone, later_divisors_kept, tested_alone, guard_lost, asked_on_arrival, guard_behind_itself}

-- ---- tables, whose runs from the state of zeros divide by zero

-- v0 := 1 div v1
unfoldable pub in_assignment : List ℤ
in_assignment = (16, 0, 0, 0) ⨾ (1, 1, 0, 0) ⨾ (2, 1, 0, 0) ⨾ (6, 1, 2, 0) ⨾ (33, 0, 3, 0) ⨾ (16, 0, 0, 0) ⨾ (48, 0, 4, 5) ⨾ []

-- if false and 1 div v1 = 0 then skip else skip
unfoldable pub in_if : List ℤ
in_if =
    (16, 0, 0, 0) ⨾ (17, 0, 0, 0) ⨾ (1, 1, 0, 0) ⨾ (2, 1, 0, 0) ⨾ (6, 2, 3, 0) ⨾ (1, 0, 0, 0) ⨾ (20, 4, 5, 0) ⨾ (23, 1, 6, 0)
    ⨾ (32, 0, 0, 0) ⨾ (32, 0, 0, 0) ⨾ (35, 7, 8, 9) ⨾ (16, 0, 0, 0) ⨾ (48, 0, 10, 11) ⨾ []

-- while false and 1 div v1 = 0 (true, 0) do skip
unfoldable pub in_while : List ℤ
in_while =
    (16, 0, 0, 0) ⨾ (17, 0, 0, 0) ⨾ (1, 1, 0, 0) ⨾ (2, 1, 0, 0) ⨾ (6, 2, 3, 0) ⨾ (1, 0, 0, 0) ⨾ (20, 4, 5, 0) ⨾ (23, 1, 6, 0)
    ⨾ (16, 0, 0, 0) ⨾ (1, 0, 0, 0) ⨾ (37, 8, 9, 0) ⨾ (32, 0, 0, 0) ⨾ (36, 7, 10, 11) ⨾ (16, 0, 0, 0) ⨾ (48, 0, 12, 13) ⨾ []

-- v0 := 1 div v1; if false and 1 div v1 = 0 then skip else skip; while false and 1 div v1 = 0 (true, 0) do skip
unfoldable pub in_all : List ℤ
in_all =
    (16, 0, 0, 0) ⨾ (1, 1, 0, 0) ⨾ (2, 1, 0, 0) ⨾ (6, 1, 2, 0) ⨾ (33, 0, 3, 0)
    ⨾ (17, 0, 0, 0) ⨾ (1, 1, 0, 0) ⨾ (2, 1, 0, 0) ⨾ (6, 6, 7, 0) ⨾ (1, 0, 0, 0) ⨾ (20, 8, 9, 0) ⨾ (23, 5, 10, 0)
    ⨾ (32, 0, 0, 0) ⨾ (32, 0, 0, 0) ⨾ (35, 11, 12, 13)
    ⨾ (17, 0, 0, 0) ⨾ (1, 1, 0, 0) ⨾ (2, 1, 0, 0) ⨾ (6, 16, 17, 0) ⨾ (1, 0, 0, 0) ⨾ (20, 18, 19, 0) ⨾ (23, 15, 20, 0)
    ⨾ (16, 0, 0, 0) ⨾ (1, 0, 0, 0) ⨾ (37, 22, 23, 0) ⨾ (32, 0, 0, 0) ⨾ (36, 21, 24, 25)
    ⨾ (34, 14, 26, 0) ⨾ (34, 4, 27, 0) ⨾ (16, 0, 0, 0) ⨾ (48, 0, 28, 29) ⨾ []

-- with v1 - 1 unequal to 0 for its precondition: v1 := v1 + 1; v0 := 1 div (v1 - 1)
unfoldable pub after_assignment : List ℤ
after_assignment =
    (2, 1, 0, 0) ⨾ (1, 1, 0, 0) ⨾ (4, 0, 1, 0) ⨾ (1, 0, 0, 0) ⨾ (21, 2, 3, 0)
    ⨾ (2, 1, 0, 0) ⨾ (1, 1, 0, 0) ⨾ (3, 5, 6, 0) ⨾ (33, 1, 7, 0)
    ⨾ (1, 1, 0, 0) ⨾ (2, 1, 0, 0) ⨾ (1, 1, 0, 0) ⨾ (4, 10, 11, 0) ⨾ (6, 9, 12, 0) ⨾ (33, 0, 13, 0)
    ⨾ (34, 8, 14, 0) ⨾ (16, 0, 0, 0) ⨾ (48, 4, 15, 16) ⨾ []

-- with v1 - 1 unequal to 0 for its precondition: while (true or 1 div (v1 - 1) = 0) and v1 = 0 (true, -v1) do v1 := 1. From v1 = 0
-- the first test of the guard works out no zero divisor, and the second does
unfoldable pub after_pass : List ℤ
after_pass =
    (2, 1, 0, 0) ⨾ (1, 1, 0, 0) ⨾ (4, 0, 1, 0) ⨾ (1, 0, 0, 0) ⨾ (21, 2, 3, 0)
    ⨾ (16, 0, 0, 0) ⨾ (1, 1, 0, 0) ⨾ (2, 1, 0, 0) ⨾ (1, 1, 0, 0) ⨾ (4, 7, 8, 0) ⨾ (6, 6, 9, 0) ⨾ (1, 0, 0, 0) ⨾ (20, 10, 11, 0) ⨾ (24, 5, 12, 0)
    ⨾ (2, 1, 0, 0) ⨾ (1, 0, 0, 0) ⨾ (20, 14, 15, 0) ⨾ (23, 13, 16, 0)
    ⨾ (16, 0, 0, 0) ⨾ (2, 1, 0, 0) ⨾ (8, 19, 0, 0) ⨾ (37, 18, 20, 0) ⨾ (1, 1, 0, 0) ⨾ (33, 1, 22, 0) ⨾ (36, 17, 21, 23)
    ⨾ (16, 0, 0, 0) ⨾ (48, 4, 24, 25) ⨾ []

-- ---- 12 now: 8 words without D, and 14 with it

pub fitted_before : ((outcome₀ in_assignment 8 14).answer ≡ planned 1 8)
    × ((outcome in_assignment 8 14).answer ≡ refusal 12 0)
    × ((outcome in_assignment 14 26).answer ≡ planned 1 14)
unfolding in_assignment ◌⨾◌ outcome_within outcome_for outcome₀ conditions₀ walk₀ wp₀ verdict_within length_test row_test_within script_test unlinked_test target_test reading_test nesting_test lowest row_fault_within linked misread misreads row row_of expr formula stmt expr_at formula_at stmt_at tree nesting conditions walk wp divisors divisorsᶠ subst_expr subst_formula list_words all_lines line_words expr_words formula_words
fitted_before = (refl, refl, refl)

-- ---- by demand 3 alone

-- a body that lists the conditions `cs` of a script
abbrev pub ListsConditions : (Tree → List Condition) → Body → Type 0
ListsConditions cs f = Lists f (λ t. length (cs (tree t))) (λ t. list_words with_depth (cs (tree t)))

-- all that is listed for the table is true, and a run fails
record Untold (cs : Tree → List Condition) (t : List ℤ) : Type 0 where
  fails : Failing t
  fits : length (list_words with_depth (cs (tree t))) ≤ 512
  listed : read_list (list_words with_depth (cs (tree t))) ≡ some (cs (tree t))
  valid : AllValid whole (cs (tree t))

by_3 : (cs : Tree → List Condition) (t : List ℤ) → Untold cs t → (f : Body) → Demanded f → ListsConditions cs f → ⊥
by_3 cs t u f demanded h = lists_valid f demanded _ _ h t u.fails u.fits (cs (tree t)) u.listed u.valid

one_div : Expr
one_div = arith Div (const (pos 1)) (var 1)

never : Formula
never = join And (truth false) (cmp Equal one_div (const (pos 0)))

one_less : Expr
one_less = arith Minus (var 1) (const (pos 1))

-- what later divisors that are kept come to, and main where D is asked for on arrival: p, the precondition, says v1 - 1 unequal to 0
kept : (p : Bool) → T (Bool.not p || (p && true))
kept true = tt
kept false = tt

-- the guard of the while whose second test fails: it is true where v1 is 0
once : Formula
once = join And (join Or (truth true) (cmp Equal (arith Div (const (pos 1)) one_less) (const (pos 0)))) (cmp Equal (var 1) (const (pos 0)))

-- its floor and its step; x is v1, and m the mark
floor_once : (x : ℤ) → T (Bool.not (eqZ x (pos 0)) || le_z (pos 0) (neg_ℤ x))
floor_once (pos zero) = tt
floor_once (pos (suc n)) = rw (ne_eqb (suc n) 0 (λ e. omega linear)) tt
floor_once (negsuc n) = tt

step_once : (x m : ℤ) → T (Bool.not (eqZ x (pos 0) && eqZ (neg_ℤ x) m) || lt_z (negsuc 0) m)
step_once x (pos k) = implies_true (eqZ x (pos 0) && eqZ (neg_ℤ x) (pos k))
step_once (pos zero) (negsuc k) = tt
step_once (pos (suc n)) (negsuc k) = rw (ne_eqb (suc n) 0 (λ e. omega linear)) tt
step_once (negsuc n) (negsuc k) = tt

record Facts : Type 0 where
  assignment : Untold (conditions_by assigned_alone) in_assignment
  if : Untold (conditions_by tested_alone) in_if
  while : Untold (conditions_by guard_lost) in_while
  former : Untold conditions₀ in_all
  connective : Untold (conditions_by short_circuit) in_if
  one_side : Untold (conditions_by first_side_only) in_if
  itself : Untold (conditions_by guard_behind_itself) in_while
  later : Untold (conditions_by later_divisors_kept) after_assignment
  arrival : Untold (conditions_by asked_on_arrival) after_pass

facts : Facts
unfolding one_div never one_less once in_assignment in_if in_while in_all after_assignment after_pass zero_state conditions_by walk_by wp_by divisors_by divisors_byᶠ conditions₀ walk₀ wp₀ ◌⨾◌ verdict_within length_test row_test_within script_test unlinked_test target_test reading_test nesting_test lowest row_fault_within linked misread misreads row row_of expr formula stmt expr_at formula_at stmt_at tree nesting subst_expr subst_formula list_words all_lines line_words expr_words formula_words value holds defined definedᶠ after step step_of first_step test read_expr_within read_formula_within spelled_within found_within line_before_within lines_before_within lines_within read_list
facts =
    let at-assignment : Failing in_assignment =
    record { accepts = refl; need = lit≤ tt; pre = tt; steps = 1; cause = zero_divisor; due = assign 0 one_div; fails = refl } in
    let at-if : Failing in_if =
    record { accepts = refl; need = lit≤ tt; pre = tt; steps = 1; cause = zero_divisor; due = branch never skip skip; fails = refl } in
    let at-while : Failing in_while =
    record {
      accepts = refl;
      need = lit≤ tt;
      pre = tt;
      steps = 1;
      cause = zero_divisor;
      due = loop 12 never (truth true) (const (pos 0)) skip;
      fails = refl;
    } in
    let at_first : Failing in_all =
    record { accepts = refl; need = lit≤ tt; pre = tt; steps = 1; cause = zero_divisor; due = assign 0 one_div; fails = refl } in
    let at_second : Failing after_assignment =
    record {
      accepts = refl;
      need = lit≤ tt;
      pre = tt;
      steps = 2;
      cause = zero_divisor;
      due = assign 0 (arith Div (const (pos 1)) one_less);
      fails = refl;
    } in
    let at-second-test : Failing after_pass =
    record {
      accepts = refl;
      need = lit≤ tt;
      pre = tt;
      steps = 3;
      cause = zero_divisor;
      due = loop 24 once (truth true) (neg (var 1)) (assign 1 (const (pos 1)));
      fails = refl;
    } in
    record {
      assignment = record { fails = at-assignment; fits = lit≤ tt; listed = refl; valid = (λ s. tt, tt) };
      if = record { fails = at-if; fits = lit≤ tt; listed = refl; valid = (λ s. tt, tt) };
      while = record { fails = at-while; fits = lit≤ tt; listed = refl; valid = (λ s. tt, (λ s. tt, (λ s. tt, (λ s. tt, tt)))) };
      former = record { fails = at_first; fits = lit≤ tt; listed = refl; valid = (λ s. tt, (λ s. tt, (λ s. tt, (λ s. tt, tt)))) };
      connective = record { fails = at-if; fits = lit≤ tt; listed = refl; valid = (λ s. tt, tt) };
      one_side = record { fails = at-if; fits = lit≤ tt; listed = refl; valid = (λ s. tt, tt) };
      itself = record {
        fails = at-while;
        fits = lit≤ tt;
        listed = refl;
        valid = (λ s. tt, (λ s. tt, (λ s. tt, (λ s. tt, (λ s. tt, tt)))));
      };
      later = record {
        fails = at_second;
        fits = lit≤ tt;
        listed = refl;
        valid = (λ s. kept (Bool.not (eqZ (s.var 1 -ℤ pos 1) (pos 0))), tt);
      };
      arrival = record {
        fails = at-second-test;
        fits = lit≤ tt;
        listed = refl;
        valid = (
          λ s. implies_true (Bool.not (eqZ (s.var 1) (pos 0))),
          (
            λ s. floor_once (s.var 1),
            (λ s. step_once (s.var 1) (s.mark 24), (λ s. kept (Bool.not (eqZ (s.var 1 -ℤ pos 1) (pos 0))), tt)),
          ),
        );
      };
    }

-- D(E) of an assignment is left out
pub assigned_alone_by_3 : (f : Body) → Demanded f → ListsConditions (conditions_by assigned_alone) f → ⊥
assigned_alone_by_3 = by_3 (conditions_by assigned_alone) in_assignment facts.assignment

-- D(B) of an if is left out
pub tested_alone_by_3 : (f : Body) → Demanded f → ListsConditions (conditions_by tested_alone) f → ⊥
tested_alone_by_3 = by_3 (conditions_by tested_alone) in_if facts.if

-- kind 5 is left out
pub guard_lost_by_3 : (f : Body) → Demanded f → ListsConditions (conditions_by guard_lost) f → ⊥
guard_lost_by_3 = by_3 (conditions_by guard_lost) in_while facts.while

-- all three, as it was before P5
pub former_by_3 : (f : Body) → Demanded f → ListsConditions conditions₀ f → ⊥
former_by_3 = by_3 conditions₀ in_all facts.former

-- the second side of a connective only where the first leaves it open
pub short_circuit_by_3 : (f : Body) → Demanded f → ListsConditions (conditions_by short_circuit) f → ⊥
short_circuit_by_3 = by_3 (conditions_by short_circuit) in_if facts.connective

-- the second side never
pub first_side_only_by_3 : (f : Body) → Demanded f → ListsConditions (conditions_by first_side_only) f → ⊥
first_side_only_by_3 = by_3 (conditions_by first_side_only) in_if facts.one_side

-- kind 5 with the guard itself for a hypothesis
pub guard_behind_itself_by_3 : (f : Body) → Demanded f → ListsConditions (conditions_by guard_behind_itself) f → ⊥
guard_behind_itself_by_3 = by_3 (conditions_by guard_behind_itself) in_while facts.itself

-- D not under the assignments before it
pub later_divisors_kept_by_3 : (f : Body) → Demanded f → ListsConditions (conditions_by later_divisors_kept) f → ⊥
later_divisors_kept_by_3 = by_3 (conditions_by later_divisors_kept) after_assignment facts.later

-- D of a while's guard where it is arrived at, and not after a pass
pub asked_on_arrival_by_3 : (f : Body) → Demanded f → ListsConditions (conditions_by asked_on_arrival) f → ⊥
asked_on_arrival_by_3 = by_3 (conditions_by asked_on_arrival) after_pass facts.arrival
