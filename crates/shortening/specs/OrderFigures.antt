-- 02, P10, by computation: expressions and formulas with what they become under P6's order and under P10's, as words, and
-- whether P6's result kept a subtraction whose two sides had both become constant 0; a list in three rooms, with what
-- is answered. Assumes nothing.
use Rattle.std.specs.Prelude.{ℕ, ◌≡◌, refl, Bool, true, false, List, [], ◌∷◌, map, ℤ, pos}
use Rattle.script.specs.declared.Operator.TheVariants.{Plus, Minus, Times}
use Rattle.script.specs.declared.Relation.TheVariants.{Equal}
use Rattle.script.specs.declared.Connective.TheVariants.{And}
use Rattle.script.specs.Syntax.{Expr, const, var, arith, neg, choose, Formula, truth, cmp, not, join}
use Rattle.script.specs.Computed.{numbers, counted_down}
use Rattle.script.specs.Rows.{row_of}
use Rattle.script.specs.Words.{expr_words, formula_words, line_words, all_lines, list_words}
use Rattle.script.specs.Listing.{read_list, read_expr_within, read_formula_within, spelled_within, found_within, line_before_within, lines_before_within, lines_within}
use Rattle.shortening.specs.Simplify.{zero_minus_first, minus_zero_first, arith_node, join_node, not_node, shorten}
use Rattle.shortening.specs.Shortened.{Written, refuse, filled, written}
use Rattle.shortening.specs.Kept.{old, oldᶠ, new, newᶠ, keeps, keepsᶠ}

abbrev 𝟎 : Expr
𝟎 = const (pos 0)

abbrev x : Expr
x = var 0

abbrev 𝟎_𝟎 : Expr
𝟎_𝟎 = arith Minus 𝟎 𝟎

-- P6's words, P10's words, and whether one was kept
record Both : Type 0 where
  was : List ℤ
  is : List ℤ
  kept : Bool

abbrev of_expression : Expr → Both
of_expression e = record {
  was = expr_words (old e);
  is = expr_words (new e);
  kept = keeps e;
}

abbrev of_formula : Formula → Both
of_formula f = record {
  was = formula_words (oldᶠ f);
  is = formula_words (newᶠ f);
  kept = keepsᶠ f;
}

abbrev moves : List ℕ → List ℕ → Both
moves us vs = record { was = numbers us; is = numbers vs; kept = true }

abbrev stays : List ℕ → Both
stays us = record { was = numbers us; is = numbers us; kept = false }

expression_figures : List (Expr × Both)
expression_figures =
    -- "it was `8 1 0` and is now `1 0`"
    (𝟎_𝟎, moves (8 ∷ 1 ∷ 0 ∷ []) (1 ∷ 0 ∷ []))
    -- "as v0 + (0 − 0), now v0"
    ∷ (arith Plus x 𝟎_𝟎, moves (3 ∷ 2 ∷ 0 ∷ 8 ∷ 1 ∷ 0 ∷ []) (2 ∷ 0 ∷ []))
    ∷ (arith Plus 𝟎_𝟎 x, moves (3 ∷ 8 ∷ 1 ∷ 0 ∷ 2 ∷ 0 ∷ []) (2 ∷ 0 ∷ []))
    ∷ (arith Minus 𝟎_𝟎 𝟎, moves (8 ∷ 1 ∷ 0 ∷ []) (1 ∷ 0 ∷ []))
    ∷ (arith Minus 𝟎 𝟎_𝟎, moves (8 ∷ 8 ∷ 1 ∷ 0 ∷ []) (1 ∷ 0 ∷ []))
    ∷ (arith Minus 𝟎_𝟎 𝟎_𝟎, moves (4 ∷ 8 ∷ 1 ∷ 0 ∷ 8 ∷ 1 ∷ 0 ∷ []) (1 ∷ 0 ∷ []))
    ∷ (arith Minus x 𝟎_𝟎, moves (4 ∷ 2 ∷ 0 ∷ 8 ∷ 1 ∷ 0 ∷ []) (2 ∷ 0 ∷ []))
    ∷ (arith Minus 𝟎_𝟎 x, moves (4 ∷ 8 ∷ 1 ∷ 0 ∷ 2 ∷ 0 ∷ []) (8 ∷ 2 ∷ 0 ∷ []))
    ∷ (arith Times x 𝟎_𝟎, moves (5 ∷ 2 ∷ 0 ∷ 8 ∷ 1 ∷ 0 ∷ []) (5 ∷ 2 ∷ 0 ∷ 1 ∷ 0 ∷ []))
    ∷ (neg 𝟎_𝟎, moves (8 ∷ 8 ∷ 1 ∷ 0 ∷ []) (8 ∷ 1 ∷ 0 ∷ []))
    ∷ (choose (truth true) 𝟎_𝟎 x, moves (10 ∷ 16 ∷ 8 ∷ 1 ∷ 0 ∷ 2 ∷ 0 ∷ []) (10 ∷ 16 ∷ 1 ∷ 0 ∷ 2 ∷ 0 ∷ []))
    -- sides that "had both become constant 0"
    ∷ (arith Minus (arith Plus 𝟎 𝟎) (arith Times 𝟎 (const (pos 1))), moves (8 ∷ 1 ∷ 0 ∷ []) (1 ∷ 0 ∷ []))
    -- one side alone
    ∷ (arith Minus 𝟎 x, stays (8 ∷ 2 ∷ 0 ∷ []))
    ∷ (arith Minus x 𝟎, stays (2 ∷ 0 ∷ []))
    -- the script's own negated zero, which is no subtraction
    ∷ (neg 𝟎, stays (8 ∷ 1 ∷ 0 ∷ []))
    ∷ (arith Minus 𝟎 (neg 𝟎), stays (8 ∷ 8 ∷ 1 ∷ 0 ∷ []))
    ∷ []

formula_figures : List (Formula × Both)
formula_figures =
    (not (cmp Equal 𝟎_𝟎 𝟎), moves (22 ∷ 20 ∷ 8 ∷ 1 ∷ 0 ∷ 1 ∷ 0 ∷ []) (22 ∷ 20 ∷ 1 ∷ 0 ∷ 1 ∷ 0 ∷ []))
    ∷ (join And (truth true) (cmp Equal x 𝟎_𝟎), moves (20 ∷ 2 ∷ 0 ∷ 8 ∷ 1 ∷ 0 ∷ []) (20 ∷ 2 ∷ 0 ∷ 1 ∷ 0 ∷ []))
    -- a rule dropped it
    ∷ (join And (truth false) (cmp Equal x 𝟎_𝟎), stays (17 ∷ []))
    ∷ []

expressions_hold : map (λ (f : Expr × Both). of_expression f.0) expression_figures
    ≡ map (λ (f : Expr × Both). f.1) expression_figures
unfolding expression_figures numbers expr_words formula_words keeps shorten arith_node join_node not_node
expressions_hold = refl

formulas_hold : map (λ (f : Formula × Both). of_formula f.0) formula_figures
    ≡ map (λ (f : Formula × Both). f.1) formula_figures
unfolding formula_figures numbers expr_words formula_words keeps shorten arith_node join_node not_node
formulas_hold = refl

-- ---- answers

-- v0 = 0 − 0, by main of row 9, with depth 0
abbrev words : List ℤ
words = counted_down (20 ∷ 2 ∷ 0 ∷ 4 ∷ 1 ∷ 0 ∷ 1 ∷ 0 ∷ 4 ∷ 9 ∷ 8 ∷ 0 ∷ []) 1

-- a room, with what was answered under P6's order and what is under P10's
answer_figures : List (ℕ × Written × Written)
answer_figures =
    (9, refuse 31 9, refuse 31 9)
    ∷ (10, refuse 31 10, filled (counted_down (20 ∷ 2 ∷ 0 ∷ 1 ∷ 0 ∷ 4 ∷ 9 ∷ 5 ∷ 0 ∷ []) 1) 10)
    ∷ (
      11,
      filled (counted_down (20 ∷ 2 ∷ 0 ∷ 8 ∷ 1 ∷ 0 ∷ 4 ∷ 9 ∷ 6 ∷ 0 ∷ []) 1) 11,
      filled (counted_down (20 ∷ 2 ∷ 0 ∷ 1 ∷ 0 ∷ 4 ∷ 9 ∷ 5 ∷ 0 ∷ []) 1) 11,
    )
    ∷ []

abbrev answers : ℕ → ℕ × Written × Written
answers room = (room, written zero_minus_first words room, written minus_zero_first words room)

answers_hold : map answers (9 ∷ 10 ∷ 11 ∷ []) ≡ answer_figures
unfolding answer_figures counted_down numbers row_of list_words all_lines line_words expr_words formula_words read_expr_within read_formula_within spelled_within found_within line_before_within lines_before_within lines_within read_list written shorten arith_node
answers_hold = refl
