-- D of the expression or the formula at a row (`divisors_at`), by the row's sort (`expression_divisors`, `formula_divisors`). In
-- an accepted table it is made of the D of the rows that the row links to (`divisors_is`). Assumes nothing.
use Rattle.std.specs.Prelude.{ℕ, ◌<◌, ◌≡◌, Bool, true, false, List, T, ℤ}
use Rattle.std.proofs.Math.Path.{refl, sym, ap, ap₂}
use Rattle.std.proofs.Common.{◌∙◌}
use Rattle.std.proofs.Math.Option.{Option, none}
use Rattle.script.specs.declared.ExpressionRow.TheVariants.{Constant, Variable, Arithmetic, Negate, Mark, Choose}
use Rattle.script.specs.declared.FormulaRow.TheVariants.{True, False, Comparison, Not, Junction}
use Rattle.script.specs.declared.Row.{Row}
use Rattle.script.specs.declared.Sort.{Sort}
use Rattle.script.specs.Syntax.{Expr, Formula, not}
use Rattle.script.specs.Conditions.{◌joined◌, behind, divisor, divisors, divisorsᶠ}
use Rattle.script.specs.Rows.{row, rows, parts, sort_of}
use Rattle.script.specs.Trees.{expr_node, formula_node, expr_at, formula_at}
use Rattle.script.specs.Refusals.{same_sort}
use Rattle.theorems.specs.Accepted.{Accepted}
use Rattle.theorems.specs.RowTrees.{expr_is, formula_is}
use Rattle.formula_writer.specs.Links.{Links, links_of}

-- ---- nodes

abbrev pub is_node : Sort → Bool
is_node Sort.Expression = true
is_node Sort.Formula = true
is_node Sort.Statement = false
is_node Sort.Note = false
is_node Sort.Script = false
is_node Sort.Unknown = false

-- an expression or a formula stands at row r
abbrev pub Node : List ℤ → ℕ → Type 0
Node t r = T (is_node (sort_of (row t r)))

is_expression : (s : Sort) → T (same_sort s Sort.Expression) → s ≡ Sort.Expression
is_expression Sort.Expression h = refl
is_expression Sort.Formula h = absurd h
is_expression Sort.Statement h = absurd h
is_expression Sort.Note h = absurd h
is_expression Sort.Script h = absurd h
is_expression Sort.Unknown h = absurd h

is_formula : (s : Sort) → T (same_sort s Sort.Formula) → s ≡ Sort.Formula
is_formula Sort.Expression h = absurd h
is_formula Sort.Formula h = refl
is_formula Sort.Statement h = absurd h
is_formula Sort.Note h = absurd h
is_formula Sort.Script h = absurd h
is_formula Sort.Unknown h = absurd h

pub expression_is_node : (t : List ℤ) (r : ℕ) → T (same_sort (sort_of (row t r)) Sort.Expression) → Node t r
expression_is_node t r h = rw (is_expression (sort_of (row t r)) h) tt

pub formula_is_node : (t : List ℤ) (r : ℕ) → T (same_sort (sort_of (row t r)) Sort.Formula) → Node t r
formula_is_node t r h = rw (is_formula (sort_of (row t r)) h) tt

-- ---- D of a node

abbrev by_sort : Sort → Expr → Formula → Option Formula
by_sort Sort.Expression e f = divisors e
by_sort Sort.Formula e f = divisorsᶠ f
by_sort Sort.Statement e f = none
by_sort Sort.Note e f = none
by_sort Sort.Script e f = none
by_sort Sort.Unknown e f = none

unfoldable pub divisors_at : List ℤ → ℕ → Option Formula
divisors_at t r = by_sort (sort_of (row t r)) (expr_at t r) (formula_at t r)

pub expression_divisors : (t : List ℤ) (r : ℕ) → T (same_sort (sort_of (row t r)) Sort.Expression) → divisors_at t r ≡ divisors (expr_at t r)
unfolding divisors_at
expression_divisors t r h = ap (λ (s : Sort). by_sort s (expr_at t r) (formula_at t r)) (is_expression (sort_of (row t r)) h)

pub formula_divisors : (t : List ℤ) (r : ℕ) → T (same_sort (sort_of (row t r)) Sort.Formula) → divisors_at t r ≡ divisorsᶠ (formula_at t r)
unfolding divisors_at
formula_divisors t r h = ap (λ (s : Sort). by_sort s (expr_at t r) (formula_at t r)) (is_formula (sort_of (row t r)) h)

-- ---- by rows: D of a node, from the trees E and F and the D of the rows that it links to

abbrev pub divisors_node : (ℕ → Expr) → (ℕ → Formula) → (ℕ → Option Formula) → Row → Option Formula
divisors_node E F D (Row.Expression (Constant z)) = none
divisors_node E F D (Row.Expression (Variable v)) = none
divisors_node E F D (Row.Expression (Arithmetic o a b)) = D a.0 joined D b.0 joined divisor o (E b.0)
divisors_node E F D (Row.Expression (Negate a)) = D a.0
divisors_node E F D (Row.Expression (Mark m)) = none
divisors_node E F D (Row.Expression (Choose f a b)) =
    D f.0 joined behind (F f.0) (D a.0) joined behind (not (F f.0)) (D b.0)
divisors_node E F D (Row.Formula True) = none
divisors_node E F D (Row.Formula False) = none
divisors_node E F D (Row.Formula (Comparison o a b)) = D a.0 joined D b.0
divisors_node E F D (Row.Formula (Not f)) = D f.0
divisors_node E F D (Row.Formula (Junction o f g)) = D f.0 joined D g.0
divisors_node E F D (Row.Statement w) = none
divisors_node E F D (Row.Note i v) = none
divisors_node E F D (Row.Script p s q) = none
divisors_node E F D Row.Unknown = none

module _ (t : List ℤ) (ok : Accepted t) (r : ℕ) (h : r < rows t) where
  -- at a row that is known
  here_expression : {w : Row} → row t r ≡ w → T (same_sort (sort_of w) Sort.Expression)
      → divisors_at t r ≡ divisors (expr_node (expr_at t) (formula_at t) w)
  here_expression e s = expression_divisors t r (rw e s) ∙ ap divisors (expr_is t ok r h e)

  here_formula : {w : Row} → row t r ≡ w → T (same_sort (sort_of w) Sort.Formula)
      → divisors_at t r ≡ divisorsᶠ (formula_node (expr_at t) (formula_at t) w)
  here_formula e s = formula_divisors t r (rw e s) ∙ ap divisorsᶠ (formula_is t ok r h e)

  here_none : {w : Row} → row t r ≡ w → by_sort (sort_of w) (expr_at t r) (formula_at t r) ≡ none → divisors_at t r ≡ none
  unfolding divisors_at
  here_none e n = ap (λ (w : Row). by_sort (sort_of w) (expr_at t r) (formula_at t r)) e ∙ n

  links_here : {w : Row} → row t r ≡ w → Links t r (parts w)
  links_here e = links_of t ok r h e

  divisors_by : (w : Row) → row t r ≡ w → divisors_at t r ≡ divisors_node (expr_at t) (formula_at t) (divisors_at t) w
  unfolding divisors divisorsᶠ
  divisors_by (Row.Expression (Constant z)) e = here_expression e tt
  divisors_by (Row.Expression (Variable v)) e = here_expression e tt
  divisors_by (Row.Expression (Arithmetic o a b)) e =
      let l = links_here e in
      here_expression e tt
      ∙ ap₂ (λ (x y : Option Formula). x joined y joined divisor o (expr_at t b.0))
      (sym (expression_divisors t a.0 l.0.1)) (sym (expression_divisors t b.0 l.1.0.1))
  divisors_by (Row.Expression (Negate a)) e = here_expression e tt ∙ sym (expression_divisors t a.0 (links_here e).0.1)
  divisors_by (Row.Expression (Mark m)) e = here_expression e tt
  divisors_by (Row.Expression (Choose f a b)) e =
      let l = links_here e in
      here_expression e tt
      ∙ rw (expression_divisors t a.0 l.1.0.1, expression_divisors t b.0 l.1.1.0.1, formula_divisors t f.0 l.0.1)
  divisors_by (Row.Formula True) e = here_formula e tt
  divisors_by (Row.Formula False) e = here_formula e tt
  divisors_by (Row.Formula (Comparison o a b)) e =
      let l = links_here e in
      here_formula e tt
      ∙ ap₂ ◌joined◌ (sym (expression_divisors t a.0 l.0.1)) (sym (expression_divisors t b.0 l.1.0.1))
  divisors_by (Row.Formula (Not f)) e = here_formula e tt ∙ sym (formula_divisors t f.0 (links_here e).0.1)
  divisors_by (Row.Formula (Junction o f g)) e =
      let l = links_here e in
      here_formula e tt
      ∙ ap₂ ◌joined◌ (sym (formula_divisors t f.0 l.0.1)) (sym (formula_divisors t g.0 l.1.0.1))
  divisors_by (Row.Statement w) e = here_none e refl
  divisors_by (Row.Note i v) e = here_none e refl
  divisors_by (Row.Script p s q) e = here_none e refl
  divisors_by Row.Unknown e = here_none e refl

  pub divisors_is : {w : Row} → row t r ≡ w → divisors_at t r ≡ divisors_node (expr_at t) (formula_at t) (divisors_at t) w
  divisors_is {w} e = divisors_by w e
