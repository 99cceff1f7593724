-- 02, P6, by computation: each rule once, in 02's order; rules that fit only when a part was shortened; what has no rule.
-- Lists are in `ListFigures`, 0 − 0 under both orders (02, P10) in `OrderFigures`. Assumes nothing.
use Rattle.std.specs.Prelude.{◌≡◌, refl, true, false, List, [], ◌∷◌, map, pos, negsuc}
use Rattle.script.specs.declared.Operator.TheVariants.{Plus, Minus, Times, Div, Mod}
use Rattle.script.specs.declared.Relation.TheVariants.{Less, AtMost, Equal}
use Rattle.script.specs.declared.Connective.TheVariants.{And, Or, Implies}
use Rattle.script.specs.Syntax.{Expr, const, var, mark, arith, neg, choose, Formula, truth, cmp, not, join}
use Rattle.shortening.specs.Simplify.{order, arith_node, join_node, not_node, shorten, shortenᶠ}

-- ---- expressions

abbrev 𝟎 : Expr
𝟎 = const (pos 0)

abbrev 𝟏 : Expr
𝟏 = const (pos 1)

abbrev x : Expr
x = var 0

abbrev y : Expr
y = mark 3

-- an expression, and the one that it becomes
expression_figures : List (Expr × Expr)
expression_figures =
    -- "0 − E becomes negate E"
    (arith Minus 𝟎 x, neg x)
    -- "E − 0 becomes E"
    ∷ (arith Minus x 𝟎, x)
    -- "E + 0 and 0 + E become E"
    ∷ (arith Plus x 𝟎, x)
    ∷ (arith Plus 𝟎 x, x)
    -- "E × 1 and 1 × E become E"
    ∷ (arith Times x 𝟏, x)
    ∷ (arith Times 𝟏 x, x)
    -- two rules fit
    ∷ (arith Minus 𝟎 𝟎, 𝟎)
    ∷ (arith Plus 𝟎 𝟎, 𝟎)
    ∷ (arith Times 𝟏 𝟏, 𝟏)
    -- "parts first": these rules fit only when a part was shortened
    ∷ (arith Minus (arith Plus 𝟎 𝟎) x, neg x)
    ∷ (arith Minus x (arith Plus 𝟎 𝟎), x)
    ∷ (arith Plus x (arith Times 𝟎 𝟏), x)
    ∷ (arith Plus (arith Minus 𝟎 𝟎) x, x)
    ∷ (arith Times (arith Plus 𝟎 𝟏) x, x)
    ∷ (arith Times x (arith Minus 𝟏 𝟎), x)
    -- in every part of a node that has no rule
    ∷ (neg (arith Plus x 𝟎), neg x)
    ∷ (arith Div (arith Minus x 𝟎) (arith Times y 𝟏), arith Div x y)
    ∷ (arith Mod (arith Plus 𝟎 x) (arith Times 𝟏 y), arith Mod x y)
    ∷ (choose (not (truth true)) (arith Plus x 𝟎) (arith Minus 𝟎 y), choose (truth false) x (neg y))
    -- no rule
    ∷ (arith Times x 𝟎, arith Times x 𝟎)
    ∷ (arith Times 𝟎 x, arith Times 𝟎 x)
    ∷ (arith Div x 𝟏, arith Div x 𝟏)
    ∷ (arith Div 𝟎 x, arith Div 𝟎 x)
    ∷ (arith Mod x 𝟏, arith Mod x 𝟏)
    ∷ (neg (const (pos 5)), neg (const (pos 5)))
    ∷ (neg 𝟎, neg 𝟎)
    ∷ (neg (neg x), neg (neg x))
    ∷ (arith Times x (const (negsuc 0)), arith Times x (const (negsuc 0)))
    ∷ (arith Plus x 𝟏, arith Plus x 𝟏)
    ∷ (arith Minus 𝟏 x, arith Minus 𝟏 x)
    ∷ (arith Minus x x, arith Minus x x)
    ∷ (choose (truth true) x y, choose (truth true) x y)
    ∷ []

-- ---- formulas

abbrev F : Formula
F = cmp Less x y

abbrev true! : Formula
true! = truth true

abbrev false! : Formula
false! = truth false

formula_figures : List (Formula × Formula)
formula_figures =
    -- "true and F, F and true become F"
    (join And true! F, F)
    ∷ (join And F true!, F)
    -- "false and F, F and false become false"
    ∷ (join And false! F, false!)
    ∷ (join And F false!, false!)
    -- "true implies F becomes F"
    ∷ (join Implies true! F, F)
    -- "false implies F and F implies true become true"
    ∷ (join Implies false! F, true!)
    ∷ (join Implies F true!, true!)
    -- "not true and not false are exchanged for their values"
    ∷ (not true!, false!)
    ∷ (not false!, true!)
    -- two rules fit
    ∷ (join And true! false!, false!)
    ∷ (join And false! true!, false!)
    ∷ (join Implies false! true!, true!)
    -- "parts first"
    ∷ (not (not true!), true!)
    ∷ (join And (not false!) F, F)
    ∷ (join And F (join And true! false!), false!)
    ∷ (join Implies (join Implies F true!) F, F)
    ∷ (join Implies F (not false!), true!)
    ∷ (join Or (join And true! F) (not true!), join Or F false!)
    ∷ (not (join And F true!), not F)
    ∷ (cmp Equal (arith Plus x 𝟎) (arith Times 𝟏 y), cmp Equal x y)
    -- no rule
    ∷ (join Or true! F, join Or true! F)
    ∷ (join Or F true!, join Or F true!)
    ∷ (join Or false! F, join Or false! F)
    ∷ (join Or F false!, join Or F false!)
    ∷ (join Implies F false!, join Implies F false!)
    ∷ (not (not F), not (not F))
    ∷ (join And F F, join And F F)
    ∷ (cmp AtMost 𝟎 𝟎, cmp AtMost 𝟎 𝟎)
    ∷ []

expressions_hold : map (λ (p : Expr × Expr). shorten order p.0) expression_figures
    ≡ map (λ (p : Expr × Expr). p.1) expression_figures
unfolding expression_figures shorten arith_node not_node
expressions_hold = refl

formulas_hold : map (λ (p : Formula × Formula). shortenᶠ order p.0) formula_figures
    ≡ map (λ (p : Formula × Formula). p.1) formula_figures
unfolding formula_figures shorten arith_node join_node not_node
formulas_hold = refl
