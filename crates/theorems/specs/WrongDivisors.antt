-- Wrong turns of 02, P5, each a change of one field of the rules (`WrongItems.Items` for D, `WrongRules.Weakest` for W,
-- `WrongRules.Listed` for the walk; `asked_on_arrival` of two), and told from the right rule at one table of `DivisionFigures`
-- (`other_words`). Assumes nothing.
use Rattle.std.specs.Prelude.{ℕ, List, [], ◌∷◌, ◌++◌}
use Rattle.std.proofs.Math.Option.{Option, none, some}
use Rattle.script.specs.declared.Operator.{Operator}
use Rattle.script.specs.declared.Operator.TheVariants.{Plus, Minus, Times, Div, Mod}
use Rattle.script.specs.declared.Relation.TheVariants.{Less, AtMost, Equal, Unequal}
use Rattle.script.specs.declared.Connective.{Connective}
use Rattle.script.specs.declared.Connective.TheVariants.{And, Or, Implies}
use Rattle.script.specs.Syntax.{Expr, Formula, truth, cmp, not, join}
use Rattle.script.specs.Rows.{row, row_of}
use Rattle.script.specs.Conditions.{Condition, ◌joined◌, behind, divisor, ◌and◌, guard, conditions, walk, wp, divisors, divisorsᶠ, subst_expr, subst_formula}
use Rattle.script.specs.Words.{line_words, all_lines, list_words, expr_words, formula_words}
use Rattle.script.specs.Trees.{expr, formula, stmt, expr_at, formula_at, stmt_at, tree}
use Rattle.script.specs.Computed.{◌⨾◌}
use Rattle.script.specs.DivisionFigures.{three_divisors, nested_divisors, division_in_choose, division_in_if, division_in_while, division_after_assignment, division_in_annotations}
use Rattle.theorems.specs.WrongItems.{Items, divisors_by, divisors_byᶠ, right_items}
use Rattle.theorems.specs.WrongRules.{Weakest, Rules, right_weakest, right_listed, right_depths, wp_by, walk_by, lines_by, conditions_by, list_by, Wrong, wrong, OtherWords, all_told}

-- ---- wrong divisors: "for div and mod the divisor unequal to 0"

abbrev with_items : Items → Rules
with_items i = record { items = i; weakest = right_weakest; listed = right_listed; depths = right_depths }

abbrev with_divisor : (Operator → Expr → Option Formula) → Rules
with_divisor d = with_items (record {
  divided_by = d;
  operands = right_items.operands;
  chosen = right_items.chosen;
  sides = right_items.sides;
})

abbrev of_mod : Operator → Expr → Option Formula
of_mod Plus e = none
of_mod Minus e = none
of_mod Times e = none
of_mod Div e = none
of_mod Mod e = divisor Mod e

abbrev of_div : Operator → Expr → Option Formula
of_div Plus e = none
of_div Minus e = none
of_div Times e = none
of_div Div e = divisor Div e
of_div Mod e = none

abbrev pub div_forgotten : Rules
div_forgotten = with_divisor of_mod

abbrev pub mod_forgotten : Rules
mod_forgotten = with_divisor of_div

-- ---- wrong operands

abbrev with_operands : (Option Formula → Option Formula → Option Formula → Option Formula) → Rules
with_operands o = with_items (record {
  divided_by = right_items.divided_by;
  operands = o;
  chosen = right_items.chosen;
  sides = right_items.sides;
})

-- "grouped from the left"
abbrev pub operands_from_the_right : Rules
operands_from_the_right = with_operands (λ x y d. x joined (y joined d))

-- "each part's D in order, then for div and mod the divisor unequal to 0"
abbrev pub divisor_first : Rules
divisor_first = with_operands (λ x y d. d joined x joined y)

-- "each kept whole": an item that is an and taken apart, and its sides grouped anew
abbrev flat_and : Formula → Formula → Formula
flat_and f (join And g h) = flat_and (flat_and f g) h
flat_and f (join Or g h) = join And f (join Or g h)
flat_and f (join Implies g h) = join And f (join Implies g h)
flat_and f (truth b) = join And f (truth b)
flat_and f (cmp r a b) = join And f (cmp r a b)
flat_and f (not g) = join And f (not g)

abbrev flat_joined : Option Formula → Option Formula → Option Formula
flat_joined none y = y
flat_joined (some f) none = some f
flat_joined (some f) (some g) = some (flat_and f g)

abbrev pub flattened : Rules
flattened = with_operands (λ x y d. flat_joined (flat_joined x y) d)

-- ---- wrong choices: "in a choose the branches' D stand behind formula implies and (not formula) implies"

abbrev with_chosen : (Formula → Option Formula → Option Formula → Option Formula → Option Formula) → Rules
with_chosen c = with_items (record {
  divided_by = right_items.divided_by;
  operands = right_items.operands;
  chosen = c;
  sides = right_items.sides;
})

-- "grouped from the left"
abbrev pub choose_from_the_right : Rules
choose_from_the_right = with_chosen (λ f p x y. p joined (behind f x joined behind (not f) y))

-- "each part's D": not that of the formula
abbrev pub formula_forgotten : Rules
formula_forgotten = with_chosen (λ f p x y. behind f x joined behind (not f) y)

abbrev pub not_lost : Rules
not_lost = with_chosen (λ f p x y. p joined behind f x joined behind f y)

abbrev pub both_branches : Rules
both_branches = with_chosen (λ f p x y. p joined x joined y)

-- ---- wrong sides: "connectives both sides"

abbrev with_sides : (Connective → Formula → Option Formula → Option Formula → Option Formula) → Rules
with_sides s = with_items (record {
  divided_by = right_items.divided_by;
  operands = right_items.operands;
  chosen = right_items.chosen;
  sides = s;
})

-- the second side's D behind the first side, where that leaves the connective open
abbrev where_open : Connective → Formula → Option Formula → Option Formula
where_open And f y = behind f y
where_open Or f y = behind (not f) y
where_open Implies f y = behind f y

abbrev pub short_circuit : Rules
short_circuit = with_sides (λ c f x y. x joined where_open c f y)

abbrev pub first_side_only : Rules
first_side_only = with_sides (λ c f x y. x)

-- ---- wrong uses of D in W

abbrev with_weakest : Weakest → Rules
with_weakest w = record { items = right_items; weakest = w; listed = right_listed; depths = right_depths }

abbrev with_assigned : (Option Formula → ℕ → Expr → Formula → Formula) → Rules
with_assigned a = with_weakest (record {
  assigned = a;
  tested = right_weakest.tested;
  asserted = right_weakest.asserted;
  arrived = right_weakest.arrived;
})

-- an assignment without D(E)
abbrev pub assigned_alone : Rules
assigned_alone = with_assigned (λ d v e q. subst_formula v e q)

-- E put into D(E) too
abbrev pub divisors_replaced : Rules
divisors_replaced = with_assigned (λ d v e q. subst_formula v e (d and q))

-- E not put into the D that Q has from later statements: every comparison by unequal is left as it stands
abbrev subst_but_unequal : ℕ → Expr → Formula → Formula
subst_but_unequal v e (truth b) = truth b
subst_but_unequal v e (cmp Less a b) = subst_formula v e (cmp Less a b)
subst_but_unequal v e (cmp AtMost a b) = subst_formula v e (cmp AtMost a b)
subst_but_unequal v e (cmp Equal a b) = subst_formula v e (cmp Equal a b)
subst_but_unequal v e (cmp Unequal a b) = cmp Unequal a b
subst_but_unequal v e (not f) = not (subst_but_unequal v e f)
subst_but_unequal v e (join c f g) = join c (subst_but_unequal v e f) (subst_but_unequal v e g)

abbrev pub later_divisors_kept : Rules
later_divisors_kept = with_assigned (λ d v e q. d and subst_but_unequal v e q)

-- an if without D(B)
abbrev pub tested_alone : Rules
tested_alone = with_weakest (record {
  assigned = right_weakest.assigned;
  tested = λ d f. f;
  asserted = right_weakest.asserted;
  arrived = right_weakest.arrived;
})

-- "in annotations 01's totals stay"
abbrev pub assertion_divided : Rules
assertion_divided = with_weakest (record {
  assigned = right_weakest.assigned;
  tested = right_weakest.tested;
  asserted = λ d a q. d and join And a q;
  arrived = right_weakest.arrived;
})

-- ---- wrong conditions of kind 5: "a loop whose guard divides lists first a condition of kind 5, guard: I implies D(B)"

abbrev with_guard : (ℕ → ℕ → Formula → Formula → Option Formula → List Condition)
    → (List Condition → Condition → Condition → List Condition → Condition → List Condition) → Rules
with_guard g l = record {
  items = right_items;
  weakest = right_weakest;
  listed = record {
    sequence = right_listed.sequence;
    branches = right_listed.branches;
    guarded = g;
    looped = l;
    within = right_listed.within;
    trailed = right_listed.trailed;
  };
  depths = right_depths;
}

abbrev pub guard_lost : Rules
guard_lost = with_guard (λ m n b i d. []) right_listed.looped

-- no condition of kind 5, and D(B) in W: asked for where the loop is arrived at, and at no later test of its guard
abbrev pub asked_on_arrival : Rules
asked_on_arrival = record {
  items = right_items;
  weakest = record {
    assigned = right_weakest.assigned;
    tested = right_weakest.tested;
    asserted = right_weakest.asserted;
    arrived = λ d i. d and i;
  };
  listed = guard_lost.listed;
  depths = right_depths;
}

-- (I and B) implies D(B)
abbrev pub guard_behind_itself : Rules
guard_behind_itself = with_guard (λ m n b i d. guard m n (join And i b) d) right_listed.looped

abbrev pub guard_last : Rules
guard_last = with_guard right_listed.guarded (λ g e f x s. e ∷ f ∷ (x ++ (s ∷ g)))

-- ---- each told from the right one

pub wrongs : List Wrong
wrongs =
    wrong div_forgotten three_divisors
    ∷ wrong mod_forgotten three_divisors
    ∷ wrong operands_from_the_right three_divisors
    ∷ wrong divisor_first three_divisors
    ∷ wrong flattened nested_divisors
    ∷ wrong choose_from_the_right division_in_choose
    ∷ wrong formula_forgotten division_in_choose
    ∷ wrong not_lost division_in_choose
    ∷ wrong both_branches division_in_choose
    ∷ wrong short_circuit division_in_if
    ∷ wrong first_side_only division_in_if
    ∷ wrong assigned_alone three_divisors
    ∷ wrong divisors_replaced three_divisors
    ∷ wrong later_divisors_kept division_after_assignment
    ∷ wrong tested_alone division_in_if
    ∷ wrong assertion_divided division_in_annotations
    ∷ wrong guard_lost division_in_while
    ∷ wrong asked_on_arrival division_in_while
    ∷ wrong guard_behind_itself division_in_while
    ∷ wrong guard_last division_in_while
    ∷ []

pub other_words : OtherWords wrongs
unfolding wrongs divisors_by divisors_byᶠ wp_by walk_by lines_by conditions_by list_by ◌⨾◌ three_divisors nested_divisors division_in_choose division_in_if division_in_while division_after_assignment division_in_annotations row row_of expr formula stmt expr_at formula_at stmt_at tree conditions walk wp divisors divisorsᶠ subst_expr subst_formula list_words all_lines line_words expr_words formula_words
other_words = all_told wrongs tt
