-- The constants of a table's expressions are its words, or 0: what holds of all these holds of every constant (`expr_at_held`).
-- Argument: only kind 1 makes a constant, of the row's second word; by induction on the depth. Assumes nothing.
use Prim.Native.Nat.{ℕ, zero, suc}
use Rattle.std.specs.Prelude.{Bool, true, false, cond, ◌&&◌, ℤ, pos, negsuc, T, eqb, get_or}
use mathlib.Core.List.{List, [], ◌∷◌}
use Rattle.script.specs.declared.ExpressionRow.TheVariants.{Constant, Variable, Arithmetic, Negate, Mark, Choose}
use Rattle.script.specs.declared.Row.{Row}
use Rattle.script.specs.Syntax.{Expr, const, var, mark, arith, neg, choose, Formula}
use Rattle.script.specs.Rows.{Kind, listed, kinds, row_of, word, at_kind, row, rows}
use Rattle.script.specs.Trees.{expr_node, expr, formula, expr_at}
use Rattle.theorems.specs.Truths.{both}

-- whether a row is no constant
abbrev no_constant : Row → Bool
no_constant (Row.Expression (Constant z)) = false
no_constant (Row.Expression (Variable v)) = true
no_constant (Row.Expression (Arithmetic o a b)) = true
no_constant (Row.Expression (Negate a)) = true
no_constant (Row.Expression (Mark m)) = true
no_constant (Row.Expression (Choose f a b)) = true
no_constant (Row.Formula w) = true
no_constant (Row.Statement w) = true
no_constant (Row.Note i v) = true
no_constant (Row.Script p s q) = true
no_constant Row.Unknown = true

abbrev no_constants : List Kind → Bool
no_constants [] = true
no_constants (k ∷ ks) = no_constant k.of && no_constants ks

listed_none : (n : ℕ) (ks : List Kind) → T (no_constants ks) → T (no_constant (listed n ks))
listed_none n [] h = tt
listed_none n (k ∷ ks) h =
    let p = both (no_constant k.of) (no_constants ks) h in
    by (eqb n k.number) p.0 (listed_none n ks p.1)
  where
    by : (b : Bool) → T (no_constant k.of) → T (no_constant (listed n ks)) → T (no_constant (cond b k.of (listed n ks)))
    by true x y = x
    by false x y = y

module _ (N : ℤ → Bool) where
  -- every constant whose value can be the expression's has N
  abbrev pub ConstantsHeld : Expr → Type 0
  ConstantsHeld (const z) = T (N z)
  ConstantsHeld (var v) = Unit {0}
  ConstantsHeld (mark m) = Unit {0}
  ConstantsHeld (arith o a b) = ConstantsHeld a × ConstantsHeld b
  ConstantsHeld (neg a) = ConstantsHeld a
  ConstantsHeld (choose f a b) = ConstantsHeld a × ConstantsHeld b

  -- a row that is a constant
  abbrev RowHeld : Row → Type 0
  RowHeld (Row.Expression (Constant z)) = T (N z)
  RowHeld (Row.Expression (Variable v)) = Unit {0}
  RowHeld (Row.Expression (Arithmetic o a b)) = Unit {0}
  RowHeld (Row.Expression (Negate a)) = Unit {0}
  RowHeld (Row.Expression (Mark m)) = Unit {0}
  RowHeld (Row.Expression (Choose f a b)) = Unit {0}
  RowHeld (Row.Formula w) = Unit {0}
  RowHeld (Row.Statement w) = Unit {0}
  RowHeld (Row.Note i v) = Unit {0}
  RowHeld (Row.Script p s q) = Unit {0}
  RowHeld Row.Unknown = Unit {0}

  none_held : (w : Row) → T (no_constant w) → RowHeld w
  none_held (Row.Expression (Constant z)) h = absurd h
  none_held (Row.Expression (Variable v)) h = tt
  none_held (Row.Expression (Arithmetic o a b)) h = tt
  none_held (Row.Expression (Negate a)) h = tt
  none_held (Row.Expression (Mark m)) h = tt
  none_held (Row.Expression (Choose f a b)) h = tt
  none_held (Row.Formula w) h = tt
  none_held (Row.Statement w) h = tt
  none_held (Row.Note i v) h = tt
  none_held (Row.Script p s q) h = tt
  none_held Row.Unknown h = tt

  kind_held : (b : Bool) (a : ℤ) (w : Row) → T (N a) → T (no_constant w) → RowHeld (cond b (Row.Expression (Constant a)) w)
  kind_held true a w h k = h
  kind_held false a w h k = none_held w k

  row_of_held : (n : ℕ) (a b c : ℤ) → T (N a) → RowHeld (row_of n a b c)
  unfolding row_of
  row_of_held n a b c h = kind_held (eqb n 1) a (listed n (others (kinds a b c))) h (listed_none n (others (kinds a b c)) tt)
    where
      others : List Kind → List Kind
      others [] = []
      others (k ∷ ks) = ks

  module _ (nought : T (N (pos 0))) (t : List ℤ) (words : (i : ℕ) → T (N (get_or t i (pos 0)))) where
    kind_row_held : (z : ℤ) (r : ℕ) → RowHeld (at_kind t z r)
    kind_row_held (pos n) r = row_of_held n (word t r 1) (word t r 2) (word t r 3) (words _)
    kind_row_held (negsuc n) r = tt

    row_held : (r : ℕ) → RowHeld (row t r)
    unfolding row
    row_held r = kind_row_held (word t r 0) r

    node_held : (E : ℕ → Expr) (F : ℕ → Formula) → ((k : ℕ) → ConstantsHeld (E k)) → (w : Row) → RowHeld w → ConstantsHeld (expr_node E F w)
    node_held E F h (Row.Expression (Constant z)) k = k
    node_held E F h (Row.Expression (Variable v)) k = tt
    node_held E F h (Row.Expression (Arithmetic o a b)) k = (h a.0, h b.0)
    node_held E F h (Row.Expression (Negate a)) k = h a.0
    node_held E F h (Row.Expression (Mark m)) k = tt
    node_held E F h (Row.Expression (Choose f a b)) k = (h a.0, h b.0)
    node_held E F h (Row.Formula w) k = nought
    node_held E F h (Row.Statement w) k = nought
    node_held E F h (Row.Note i v) k = nought
    node_held E F h (Row.Script p s q) k = nought
    node_held E F h Row.Unknown k = nought

    expr_held : (n r : ℕ) → ConstantsHeld (expr t n r)
    unfolding expr
    expr_held zero r = nought
    expr_held (suc n) r = node_held (λ k. expr t n k) (λ k. formula t n k) (λ k. expr_held n k) (row t r) (row_held r)

    pub expr_at_held : (r : ℕ) → ConstantsHeld (expr_at t r)
    unfolding expr_at
    expr_at_held r = expr_held (rows t) r
