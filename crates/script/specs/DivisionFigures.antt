-- 02, P5, by computation: D of each kind of node; lists of tables that divide, as the rows of `Computed`: in assigned expressions,
-- in guards, under an assignment, under an if, in the guards of two loops, and in annotations only. Runs are in `DivisionRuns`. Assumes nothing.
use Rattle.std.specs.Prelude.{ℕ, ◌≡◌, refl, true, false, List, [], ◌∷◌, map, ℤ, pos}
use Rattle.std.proofs.Math.Option.{Option, none, some}
use Rattle.script.specs.declared.Operator.TheVariants.{Plus, Minus, Times, Div, Mod}
use Rattle.script.specs.declared.Relation.TheVariants.{Less, AtMost, Equal}
use Rattle.script.specs.declared.Connective.TheVariants.{And, Or, Implies}
use Rattle.script.specs.Syntax.{Expr, const, var, mark, arith, neg, choose, Formula, truth, cmp, not, join}
use Rattle.script.specs.Conditions.{conditions, walk, wp, divisors, divisorsᶠ, subst_expr, subst_formula}
use Rattle.script.specs.Words.{list_words, all_lines, line_words, expr_words, formula_words}
use Rattle.script.specs.Rows.{row, row_of}
use Rattle.script.specs.Trees.{expr, formula, stmt, expr_at, formula_at, stmt_at, tree, nesting}
use Rattle.script.specs.Refusals.{lowest, row_fault_within, linked, misread, misreads, length_test, row_test_within, script_test, unlinked_test, target_test, reading_test, nesting_test, verdict_within}
use Rattle.script.specs.Generated.{outcome_for, outcome_within}
use Rattle.script.specs.Listing.{read_expr_within, read_formula_within, spelled_within, found_within, line_before_within, lines_before_within, lines_within, line_at_within, no_line}
use Rattle.script.specs.Computed.{◌⨾◌, numbers, counted_down, Trial, lists, reads, observed, expected}

-- ---- D, node by node

-- v1 div v2, v3 mod v4, v5 div v6
quotient : Expr
quotient = arith Div (var 1) (var 2)

remainder : Expr
remainder = arith Mod (var 3) (var 4)

other_quotient : Expr
other_quotient = arith Div (var 5) (var 6)

-- v7 at most an expression
above : Expr → Formula
above e = cmp AtMost (var 7) e

said : Option Formula → List ℤ
said none = []
said (some f) = formula_words f

expression_figures : List (Expr × List ℕ)
expression_figures =
    -- "What has no div or mod adds nothing."
    (const (pos 0), [])
    ∷ (var 1, [])
    ∷ (mark 1, [])
    ∷ (arith Plus (var 1) (var 2), [])
    ∷ (choose (above (var 1)) (var 2) (neg (var 3)), [])
    -- "for div and mod the divisor unequal to 0"
    ∷ (quotient, 21 ∷ 2 ∷ 2 ∷ 1 ∷ 0 ∷ [])
    ∷ (remainder, 21 ∷ 2 ∷ 4 ∷ 1 ∷ 0 ∷ [])
    ∷ (neg quotient, 21 ∷ 2 ∷ 2 ∷ 1 ∷ 0 ∷ [])
    -- "each part's D in order"
    ∷ (arith Plus quotient (var 7), 21 ∷ 2 ∷ 2 ∷ 1 ∷ 0 ∷ [])
    ∷ (arith Minus (var 7) remainder, 21 ∷ 2 ∷ 4 ∷ 1 ∷ 0 ∷ [])
    ∷ (arith Times quotient remainder, 23 ∷ 21 ∷ 2 ∷ 2 ∷ 1 ∷ 0 ∷ 21 ∷ 2 ∷ 4 ∷ 1 ∷ 0 ∷ [])
    -- ".. then for div and mod the divisor", here a div itself
    ∷ (arith Mod (var 7) quotient, 23 ∷ 21 ∷ 2 ∷ 2 ∷ 1 ∷ 0 ∷ 21 ∷ 6 ∷ 2 ∷ 1 ∷ 2 ∷ 2 ∷ 1 ∷ 0 ∷ [])
    ∷ (arith Div quotient (var 7), 23 ∷ 21 ∷ 2 ∷ 2 ∷ 1 ∷ 0 ∷ 21 ∷ 2 ∷ 7 ∷ 1 ∷ 0 ∷ [])
    -- "grouped from the left": three items
    ∷ (
      arith Div quotient remainder,
      23 ∷ 23 ∷ 21 ∷ 2 ∷ 2 ∷ 1 ∷ 0 ∷ 21 ∷ 2 ∷ 4 ∷ 1 ∷ 0 ∷ 21 ∷ 7 ∷ 2 ∷ 3 ∷ 2 ∷ 4 ∷ 1 ∷ 0 ∷ [],
    )
    -- "each kept whole": the and of the second part stays nested
    ∷ (
      arith Plus quotient (arith Plus remainder other_quotient),
      23 ∷ 21 ∷ 2 ∷ 2 ∷ 1 ∷ 0 ∷ 23 ∷ 21 ∷ 2 ∷ 4 ∷ 1 ∷ 0 ∷ 21 ∷ 2 ∷ 6 ∷ 1 ∷ 0 ∷ [],
    )
    ∷ (
      arith Plus (arith Plus quotient remainder) other_quotient,
      23 ∷ 23 ∷ 21 ∷ 2 ∷ 2 ∷ 1 ∷ 0 ∷ 21 ∷ 2 ∷ 4 ∷ 1 ∷ 0 ∷ 21 ∷ 2 ∷ 6 ∷ 1 ∷ 0 ∷ [],
    )
    -- "the branches' D stand behind formula implies and (not formula) implies"
    ∷ (choose (above quotient) (var 8) (var 9), 21 ∷ 2 ∷ 2 ∷ 1 ∷ 0 ∷ [])
    ∷ (choose (above (var 8)) remainder (var 9), 25 ∷ 19 ∷ 2 ∷ 7 ∷ 2 ∷ 8 ∷ 21 ∷ 2 ∷ 4 ∷ 1 ∷ 0 ∷ [])
    ∷ (choose (above (var 8)) (var 9) other_quotient, 25 ∷ 22 ∷ 19 ∷ 2 ∷ 7 ∷ 2 ∷ 8 ∷ 21 ∷ 2 ∷ 6 ∷ 1 ∷ 0 ∷ [])
    ∷ (
      choose (above (var 8)) remainder other_quotient,
      23 ∷ 25 ∷ 19 ∷ 2 ∷ 7 ∷ 2 ∷ 8 ∷ 21 ∷ 2 ∷ 4 ∷ 1 ∷ 0 ∷ 25 ∷ 22 ∷ 19 ∷ 2 ∷ 7 ∷ 2 ∷ 8 ∷ 21 ∷ 2 ∷ 6 ∷ 1 ∷ 0 ∷ [],
    )
    ∷ []

formula_figures : List (Formula × List ℕ)
formula_figures =
    (truth true, [])
    ∷ (cmp Less (var 1) (var 2), [])
    ∷ (above quotient, 21 ∷ 2 ∷ 2 ∷ 1 ∷ 0 ∷ [])
    ∷ (cmp Equal quotient remainder, 23 ∷ 21 ∷ 2 ∷ 2 ∷ 1 ∷ 0 ∷ 21 ∷ 2 ∷ 4 ∷ 1 ∷ 0 ∷ [])
    ∷ (not (above quotient), 21 ∷ 2 ∷ 2 ∷ 1 ∷ 0 ∷ [])
    ∷ (join And (truth false) (above remainder), 21 ∷ 2 ∷ 4 ∷ 1 ∷ 0 ∷ [])
    ∷ (join Or (above quotient) (above remainder), 23 ∷ 21 ∷ 2 ∷ 2 ∷ 1 ∷ 0 ∷ 21 ∷ 2 ∷ 4 ∷ 1 ∷ 0 ∷ [])
    ∷ (join Implies (above quotient) (truth true), 21 ∷ 2 ∷ 2 ∷ 1 ∷ 0 ∷ [])
    ∷ []

figures_hold : (map (λ (x : Expr × List ℕ). said (divisors x.0)) expression_figures ≡ map (λ (x : Expr × List ℕ). numbers x.1) expression_figures)
    × (map (λ (x : Formula × List ℕ). said (divisorsᶠ x.0)) formula_figures ≡ map (λ (x : Formula × List ℕ). numbers x.1) formula_figures)
unfolding said divisors divisorsᶠ expr_words formula_words numbers expression_figures formula_figures quotient remainder other_quotient above
figures_hold = (refl, refl)

-- ---- tables

-- v2 := (v1 div v2) mod (v3 div v4): three items, with the target among the divisors
unfoldable pub three_divisors : List ℤ
three_divisors =
    (16, 0, 0, 0) ⨾ (2, 1, 0, 0) ⨾ (2, 2, 0, 0) ⨾ (6, 1, 2, 0) ⨾ (2, 3, 0, 0) ⨾ (2, 4, 0, 0) ⨾ (6, 4, 5, 0) ⨾ (7, 3, 6, 0)
    ⨾ (33, 2, 7, 0) ⨾ (16, 0, 0, 0) ⨾ (48, 0, 8, 9) ⨾ []

-- v0 := (v1 div v2) + ((v3 div v4) + (v5 div v6)): the and of the second part stays nested
unfoldable pub nested_divisors : List ℤ
nested_divisors =
    (16, 0, 0, 0) ⨾ (2, 1, 0, 0) ⨾ (2, 2, 0, 0) ⨾ (6, 1, 2, 0) ⨾ (2, 3, 0, 0) ⨾ (2, 4, 0, 0) ⨾ (6, 4, 5, 0)
    ⨾ (2, 5, 0, 0) ⨾ (2, 6, 0, 0) ⨾ (6, 7, 8, 0) ⨾ (3, 6, 9, 0) ⨾ (3, 3, 10, 0) ⨾ (33, 0, 11, 0) ⨾ (16, 0, 0, 0) ⨾ (48, 0, 12, 13) ⨾ []

-- v0 := choose (v1 div v2 = 0) (v3 div v4) (v5 mod v6)
unfoldable pub division_in_choose : List ℤ
division_in_choose =
    (16, 0, 0, 0) ⨾ (2, 1, 0, 0) ⨾ (2, 2, 0, 0) ⨾ (6, 1, 2, 0) ⨾ (1, 0, 0, 0) ⨾ (20, 3, 4, 0)
    ⨾ (2, 3, 0, 0) ⨾ (2, 4, 0, 0) ⨾ (6, 6, 7, 0) ⨾ (2, 5, 0, 0) ⨾ (2, 6, 0, 0) ⨾ (7, 9, 10, 0)
    ⨾ (10, 5, 8, 11) ⨾ (33, 0, 12, 0) ⨾ (16, 0, 0, 0) ⨾ (48, 0, 13, 14) ⨾ []

-- if v1 ≠ 0 and 1 div v1 = 1 then skip else assert false
unfoldable pub division_in_if : List ℤ
division_in_if =
    (16, 0, 0, 0) ⨾ (2, 1, 0, 0) ⨾ (1, 0, 0, 0) ⨾ (21, 1, 2, 0) ⨾ (1, 1, 0, 0) ⨾ (2, 1, 0, 0) ⨾ (6, 4, 5, 0) ⨾ (1, 1, 0, 0)
    ⨾ (20, 6, 7, 0) ⨾ (23, 3, 8, 0) ⨾ (32, 0, 0, 0) ⨾ (17, 0, 0, 0) ⨾ (38, 11, 0, 0) ⨾ (35, 9, 10, 12)
    ⨾ (16, 0, 0, 0) ⨾ (48, 0, 13, 14) ⨾ []

-- while 1 div v0 = 1 (true, 0) do skip
unfoldable pub division_in_while : List ℤ
division_in_while =
    (16, 0, 0, 0) ⨾ (1, 1, 0, 0) ⨾ (2, 0, 0, 0) ⨾ (6, 1, 2, 0) ⨾ (1, 1, 0, 0) ⨾ (20, 3, 4, 0)
    ⨾ (16, 0, 0, 0) ⨾ (1, 0, 0, 0) ⨾ (37, 6, 7, 0) ⨾ (32, 0, 0, 0) ⨾ (36, 5, 8, 9) ⨾ (16, 0, 0, 0) ⨾ (48, 0, 10, 11) ⨾ []

-- v1 := v1 - 1; v0 := 1 div v1: the divisor is v1 - 1, as it stands before both
unfoldable pub division_after_assignment : List ℤ
division_after_assignment =
    (16, 0, 0, 0) ⨾ (2, 1, 0, 0) ⨾ (1, 1, 0, 0) ⨾ (4, 1, 2, 0) ⨾ (33, 1, 3, 0) ⨾ (1, 1, 0, 0) ⨾ (2, 1, 0, 0) ⨾ (6, 5, 6, 0)
    ⨾ (33, 0, 7, 0) ⨾ (34, 4, 8, 0) ⨾ (16, 0, 0, 0) ⨾ (48, 0, 9, 10) ⨾ []

-- if v1 = 0 then skip else while 1 div v1 = 1 (true, 0) do skip
unfoldable pub division_in_inner_while : List ℤ
division_in_inner_while =
    (16, 0, 0, 0) ⨾ (2, 1, 0, 0) ⨾ (1, 0, 0, 0) ⨾ (20, 1, 2, 0) ⨾ (32, 0, 0, 0) ⨾ (1, 1, 0, 0) ⨾ (2, 1, 0, 0) ⨾ (6, 5, 6, 0)
    ⨾ (1, 1, 0, 0) ⨾ (20, 7, 8, 0) ⨾ (16, 0, 0, 0) ⨾ (1, 0, 0, 0) ⨾ (37, 10, 11, 0) ⨾ (32, 0, 0, 0) ⨾ (36, 9, 12, 13)
    ⨾ (35, 3, 4, 14) ⨾ (16, 0, 0, 0) ⨾ (48, 0, 15, 16) ⨾ []

-- while 1 div v0 = 1 (true, 0) do while 1 mod v1 = 1 (true, 1) do skip: each loop lists its guard first of its own conditions
division_in_both_whiles : List ℤ
division_in_both_whiles =
    (16, 0, 0, 0) ⨾ (1, 1, 0, 0) ⨾ (2, 0, 0, 0) ⨾ (6, 1, 2, 0) ⨾ (1, 1, 0, 0) ⨾ (20, 3, 4, 0)
    ⨾ (16, 0, 0, 0) ⨾ (1, 0, 0, 0) ⨾ (37, 6, 7, 0)
    ⨾ (1, 1, 0, 0) ⨾ (2, 1, 0, 0) ⨾ (7, 9, 10, 0) ⨾ (1, 1, 0, 0) ⨾ (20, 11, 12, 0)
    ⨾ (16, 0, 0, 0) ⨾ (1, 1, 0, 0) ⨾ (37, 14, 15, 0) ⨾ (32, 0, 0, 0) ⨾ (36, 13, 16, 17)
    ⨾ (36, 5, 8, 18) ⨾ (16, 0, 0, 0) ⨾ (48, 0, 19, 20) ⨾ []

-- with 1 div v0 = 0 for its precondition, invariant, assertion and postcondition, and 1 div v0 for its variant:
-- while false do assert 1 div v0 = 0
unfoldable pub division_in_annotations : List ℤ
division_in_annotations =
    (1, 1, 0, 0) ⨾ (2, 0, 0, 0) ⨾ (6, 0, 1, 0) ⨾ (1, 0, 0, 0) ⨾ (20, 2, 3, 0) ⨾ (17, 0, 0, 0)
    ⨾ (1, 1, 0, 0) ⨾ (2, 0, 0, 0) ⨾ (6, 6, 7, 0) ⨾ (1, 0, 0, 0) ⨾ (20, 8, 9, 0)
    ⨾ (1, 1, 0, 0) ⨾ (2, 0, 0, 0) ⨾ (6, 11, 12, 0) ⨾ (37, 10, 13, 0)
    ⨾ (1, 1, 0, 0) ⨾ (2, 0, 0, 0) ⨾ (6, 15, 16, 0) ⨾ (1, 0, 0, 0) ⨾ (20, 17, 18, 0) ⨾ (38, 19, 0, 0) ⨾ (36, 5, 14, 20)
    ⨾ (1, 1, 0, 0) ⨾ (2, 0, 0, 0) ⨾ (6, 22, 23, 0) ⨾ (1, 0, 0, 0) ⨾ (20, 24, 25, 0) ⨾ (48, 4, 21, 26) ⨾ []

-- ---- trials

trials : List Trial
trials =
    lists three_divisors
    (25 ∷ 16 ∷ 23
    ∷ 23 ∷ 23 ∷ 21 ∷ 2 ∷ 2 ∷ 1 ∷ 0 ∷ 21 ∷ 2 ∷ 4 ∷ 1 ∷ 0 ∷ 21 ∷ 6 ∷ 2 ∷ 3 ∷ 2 ∷ 4 ∷ 1 ∷ 0
    ∷ 16 ∷ 4 ∷ 10 ∷ 24 ∷ 0 ∷ []) 1
    ∷ lists nested_divisors
    (25 ∷ 16 ∷ 23
    ∷ 23 ∷ 21 ∷ 2 ∷ 2 ∷ 1 ∷ 0 ∷ 23 ∷ 21 ∷ 2 ∷ 4 ∷ 1 ∷ 0 ∷ 21 ∷ 2 ∷ 6 ∷ 1 ∷ 0
    ∷ 16 ∷ 4 ∷ 14 ∷ 21 ∷ 0 ∷ []) 1
    ∷ lists division_in_choose
    (25 ∷ 16 ∷ 23 ∷ 23 ∷ 23 ∷ 21 ∷ 2 ∷ 2 ∷ 1 ∷ 0
    ∷ 25 ∷ 20 ∷ 6 ∷ 2 ∷ 1 ∷ 2 ∷ 2 ∷ 1 ∷ 0 ∷ 21 ∷ 2 ∷ 4 ∷ 1 ∷ 0
    ∷ 25 ∷ 22 ∷ 20 ∷ 6 ∷ 2 ∷ 1 ∷ 2 ∷ 2 ∷ 1 ∷ 0 ∷ 21 ∷ 2 ∷ 6 ∷ 1 ∷ 0
    ∷ 16 ∷ 4 ∷ 15 ∷ 40 ∷ 0 ∷ []) 1
    ∷ lists division_in_if
    (25 ∷ 16 ∷ 23 ∷ 21 ∷ 2 ∷ 1 ∷ 1 ∷ 0
    ∷ 23 ∷ 25 ∷ 23 ∷ 21 ∷ 2 ∷ 1 ∷ 1 ∷ 0 ∷ 20 ∷ 6 ∷ 1 ∷ 1 ∷ 2 ∷ 1 ∷ 1 ∷ 1 ∷ 16
    ∷ 25 ∷ 22 ∷ 23 ∷ 21 ∷ 2 ∷ 1 ∷ 1 ∷ 0 ∷ 20 ∷ 6 ∷ 1 ∷ 1 ∷ 2 ∷ 1 ∷ 1 ∷ 1 ∷ 23 ∷ 17 ∷ 16 ∷ 4 ∷ 15 ∷ 44 ∷ 0 ∷ []) 1
    ∷ lists division_in_while
    (25 ∷ 16 ∷ 21 ∷ 2 ∷ 0 ∷ 1 ∷ 0 ∷ 5 ∷ 10 ∷ 7 ∷ 0
    ∷ 25 ∷ 23 ∷ 16 ∷ 22 ∷ 20 ∷ 6 ∷ 1 ∷ 1 ∷ 2 ∷ 0 ∷ 1 ∷ 1 ∷ 16 ∷ 1 ∷ 10 ∷ 13 ∷ 0
    ∷ 25 ∷ 23 ∷ 16 ∷ 20 ∷ 6 ∷ 1 ∷ 1 ∷ 2 ∷ 0 ∷ 1 ∷ 1 ∷ 19 ∷ 1 ∷ 0 ∷ 1 ∷ 0 ∷ 2 ∷ 10 ∷ 16 ∷ 0
    ∷ 25 ∷ 23 ∷ 23 ∷ 16 ∷ 20 ∷ 6 ∷ 1 ∷ 1 ∷ 2 ∷ 0 ∷ 1 ∷ 1 ∷ 20 ∷ 1 ∷ 0 ∷ 9 ∷ 10 ∷ 23 ∷ 16 ∷ 18 ∷ 1 ∷ 0 ∷ 9 ∷ 10 ∷ 3 ∷ 10 ∷ 24 ∷ 0
    ∷ 25 ∷ 16 ∷ 16 ∷ 4 ∷ 12 ∷ 3 ∷ 0 ∷ []) 5
    ∷ lists division_after_assignment
    (25 ∷ 16 ∷ 23 ∷ 21 ∷ 4 ∷ 2 ∷ 1 ∷ 1 ∷ 1 ∷ 1 ∷ 0 ∷ 16 ∷ 4 ∷ 11 ∷ 12 ∷ 0 ∷ []) 1
    ∷ lists division_in_inner_while
    (25 ∷ 16 ∷ 21 ∷ 2 ∷ 1 ∷ 1 ∷ 0 ∷ 5 ∷ 14 ∷ 7 ∷ 0
    ∷ 25 ∷ 23 ∷ 16 ∷ 22 ∷ 20 ∷ 6 ∷ 1 ∷ 1 ∷ 2 ∷ 1 ∷ 1 ∷ 1 ∷ 16 ∷ 1 ∷ 14 ∷ 13 ∷ 0
    ∷ 25 ∷ 23 ∷ 16 ∷ 20 ∷ 6 ∷ 1 ∷ 1 ∷ 2 ∷ 1 ∷ 1 ∷ 1 ∷ 19 ∷ 1 ∷ 0 ∷ 1 ∷ 0 ∷ 2 ∷ 14 ∷ 16 ∷ 0
    ∷ 25 ∷ 23 ∷ 23 ∷ 16 ∷ 20 ∷ 6 ∷ 1 ∷ 1 ∷ 2 ∷ 1 ∷ 1 ∷ 1 ∷ 20 ∷ 1 ∷ 0 ∷ 9 ∷ 14 ∷ 23 ∷ 16 ∷ 18 ∷ 1 ∷ 0 ∷ 9 ∷ 14 ∷ 3 ∷ 14 ∷ 24 ∷ 0
    ∷ 25 ∷ 16 ∷ 23 ∷ 25 ∷ 20 ∷ 2 ∷ 1 ∷ 1 ∷ 0 ∷ 16 ∷ 25 ∷ 22 ∷ 20 ∷ 2 ∷ 1 ∷ 1 ∷ 0 ∷ 16 ∷ 4 ∷ 17 ∷ 18 ∷ 0 ∷ []) 5
    ∷ lists division_in_both_whiles
    (25 ∷ 16 ∷ 21 ∷ 2 ∷ 0 ∷ 1 ∷ 0 ∷ 5 ∷ 19 ∷ 7 ∷ 0
    ∷ 25 ∷ 23 ∷ 16 ∷ 22 ∷ 20 ∷ 6 ∷ 1 ∷ 1 ∷ 2 ∷ 0 ∷ 1 ∷ 1 ∷ 16 ∷ 1 ∷ 19 ∷ 13 ∷ 0
    ∷ 25 ∷ 23 ∷ 16 ∷ 20 ∷ 6 ∷ 1 ∷ 1 ∷ 2 ∷ 0 ∷ 1 ∷ 1 ∷ 19 ∷ 1 ∷ 0 ∷ 1 ∷ 0 ∷ 2 ∷ 19 ∷ 16 ∷ 0
    ∷ 25 ∷ 16 ∷ 21 ∷ 2 ∷ 1 ∷ 1 ∷ 0 ∷ 5 ∷ 18 ∷ 7 ∷ 1
    ∷ 25 ∷ 23 ∷ 16 ∷ 22 ∷ 20 ∷ 7 ∷ 1 ∷ 1 ∷ 2 ∷ 1 ∷ 1 ∷ 1 ∷ 23 ∷ 16 ∷ 18 ∷ 1 ∷ 0 ∷ 9 ∷ 19 ∷ 1 ∷ 18 ∷ 19 ∷ 1
    ∷ 25 ∷ 23 ∷ 16 ∷ 20 ∷ 7 ∷ 1 ∷ 1 ∷ 2 ∷ 1 ∷ 1 ∷ 1 ∷ 19 ∷ 1 ∷ 0 ∷ 1 ∷ 1 ∷ 2 ∷ 18 ∷ 16 ∷ 1
    ∷ 25 ∷ 23 ∷ 23 ∷ 16 ∷ 20 ∷ 7 ∷ 1 ∷ 1 ∷ 2 ∷ 1 ∷ 1 ∷ 1 ∷ 20 ∷ 1 ∷ 1 ∷ 9 ∷ 18 ∷ 23 ∷ 16 ∷ 18 ∷ 1 ∷ 1 ∷ 9 ∷ 18 ∷ 3 ∷ 18 ∷ 24 ∷ 1
    ∷ 25 ∷ 23 ∷ 23 ∷ 16 ∷ 20 ∷ 6 ∷ 1 ∷ 1 ∷ 2 ∷ 0 ∷ 1 ∷ 1 ∷ 20 ∷ 1 ∷ 0 ∷ 9 ∷ 19 ∷ 16 ∷ 3 ∷ 19 ∷ 18 ∷ 0
    ∷ 25 ∷ 16 ∷ 16 ∷ 4 ∷ 21 ∷ 3 ∷ 0 ∷ []) 9
    -- "in annotations 01's totals stay": no D, and no condition of kind 5
    ∷ lists division_in_annotations
    (25 ∷ 23 ∷ 20 ∷ 6 ∷ 1 ∷ 1 ∷ 2 ∷ 0 ∷ 1 ∷ 0 ∷ 22 ∷ 17 ∷ 20 ∷ 6 ∷ 1 ∷ 1 ∷ 2 ∷ 0 ∷ 1 ∷ 0 ∷ 1 ∷ 21 ∷ 20 ∷ 0
    ∷ 25 ∷ 23 ∷ 20 ∷ 6 ∷ 1 ∷ 1 ∷ 2 ∷ 0 ∷ 1 ∷ 0 ∷ 17 ∷ 19 ∷ 1 ∷ 0 ∷ 6 ∷ 1 ∷ 1 ∷ 2 ∷ 0 ∷ 2 ∷ 21 ∷ 19 ∷ 0
    ∷ 25 ∷ 23 ∷ 23 ∷ 20 ∷ 6 ∷ 1 ∷ 1 ∷ 2 ∷ 0 ∷ 1 ∷ 0 ∷ 17 ∷ 20 ∷ 6 ∷ 1 ∷ 1 ∷ 2 ∷ 0 ∷ 9 ∷ 21
    ∷ 23 ∷ 20 ∷ 6 ∷ 1 ∷ 1 ∷ 2 ∷ 0 ∷ 1 ∷ 0 ∷ 23 ∷ 20 ∷ 6 ∷ 1 ∷ 1 ∷ 2 ∷ 0 ∷ 1 ∷ 0 ∷ 18 ∷ 6 ∷ 1 ∷ 1 ∷ 2 ∷ 0 ∷ 9 ∷ 21 ∷ 3 ∷ 21 ∷ 46 ∷ 0
    ∷ 25 ∷ 20 ∷ 6 ∷ 1 ∷ 1 ∷ 2 ∷ 0 ∷ 1 ∷ 0 ∷ 20 ∷ 6 ∷ 1 ∷ 1 ∷ 2 ∷ 0 ∷ 1 ∷ 0 ∷ 4 ∷ 27 ∷ 17 ∷ 0 ∷ []) 4
    ∷ reads (numbers (25 ∷ 16 ∷ 16 ∷ 5 ∷ 3 ∷ 3 ∷ 1 ∷ [])) (pos 0) (record { number = 0; kind = 5; row = 3; depth = 0; start = 0; end = 3 })
    ∷ reads (numbers (25 ∷ 16 ∷ 16 ∷ 6 ∷ 3 ∷ 3 ∷ 1 ∷ [])) (pos 0) (no_line 20)
    ∷ []

trials_hold : map observed trials ≡ map expected trials
unfolding trials observed expected numbers counted_down three_divisors nested_divisors division_in_choose division_in_if division_in_while division_after_assignment division_in_inner_while division_in_both_whiles division_in_annotations ◌⨾◌ outcome_within outcome_for verdict_within length_test row_test_within script_test unlinked_test target_test reading_test nesting_test lowest row_fault_within linked misread misreads row row_of expr formula stmt expr_at formula_at stmt_at tree nesting conditions walk wp divisors divisorsᶠ subst_expr subst_formula list_words all_lines line_words expr_words formula_words read_expr_within read_formula_within spelled_within found_within line_before_within lines_before_within lines_within line_at_within
trials_hold = refl
