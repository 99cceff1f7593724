-- The row at a number, from the kind that was read there. Assumes nothing.
use Prim.Native.Nat.{ℕ, suc}
use mathlib.Core.Path.{◌≡◌, refl, sym, ap, ◌∙◌}
use mathlib.Core.Logic.{◌⊎◌, inl, inr}
use mathlib.Core.List.{List}
use lib.IntN.{ℤ, pos}
use Rattle.script.specs.declared.kinds.Kind.{Kind}
use Rattle.script.specs.declared.Operator.TheVariants.{Plus, Minus, Times, Div, Mod}
use Rattle.script.specs.declared.Relation.TheVariants.{Less, AtMost, Equal, Unequal}
use Rattle.script.specs.declared.Connective.TheVariants.{And, Or, Implies}
use Rattle.script.specs.declared.ExpressionRow.TheVariants.{Constant, Variable, Arithmetic, Negate, Mark, Choose}
use Rattle.script.specs.declared.FormulaRow.TheVariants.{True, False, Comparison, Not, Junction}
use Rattle.script.specs.declared.Row.{Row}
use Rattle.script.specs.Syntax.{Expr, Formula}
use Rattle.script.specs.Rows.{field_number, row_no, row_of, row, word}
use Rattle.script.specs.Trees.{expr_node, formula_node, no_expr, no_formula}
use Rattle.script.specs.Kinds.{number, kind_of, number_read, other_read}
use Rattle.script.specs.Laws.{row_is, pos_inj}
use Rattle.theorems.specs.Kinds.{Fits, row_fits}
use Rattle.evaluation.specs.Kinds.{operator_of, relation_of, connective_of}

-- ---- kinds that share an arm

abbrev pub Operates : Kind → Type 0
Operates k = (k ≡ Kind.Plus) ⊎ ((k ≡ Kind.Minus) ⊎ ((k ≡ Kind.Times) ⊎ ((k ≡ Kind.Div) ⊎ (k ≡ Kind.Mod))))

abbrev pub Relates : Kind → Type 0
Relates k = (k ≡ Kind.Less) ⊎ ((k ≡ Kind.AtMost) ⊎ ((k ≡ Kind.Equal) ⊎ (k ≡ Kind.Unequal)))

abbrev pub Connects : Kind → Type 0
Connects k = (k ≡ Kind.And) ⊎ ((k ≡ Kind.Or) ⊎ (k ≡ Kind.Implies))

-- k is no kind of an expression; of a formula, but for true
pub record PastExpressions (k : Kind) : Type 0 where
  pub constant : k ≡ Kind.Constant → ⊥
  pub variable : k ≡ Kind.Variable → ⊥
  pub plus : k ≡ Kind.Plus → ⊥
  pub minus : k ≡ Kind.Minus → ⊥
  pub times : k ≡ Kind.Times → ⊥
  pub quotient : k ≡ Kind.Div → ⊥
  pub remainder : k ≡ Kind.Mod → ⊥
  pub negate : k ≡ Kind.Negate → ⊥
  pub mark : k ≡ Kind.Mark → ⊥
  pub choose : k ≡ Kind.Choose → ⊥

pub record PastFormulas (k : Kind) : Type 0 where
  pub falsity : k ≡ Kind.False → ⊥
  pub less : k ≡ Kind.Less → ⊥
  pub at_most : k ≡ Kind.AtMost → ⊥
  pub equal : k ≡ Kind.Equal → ⊥
  pub unequal : k ≡ Kind.Unequal → ⊥
  pub denial : k ≡ Kind.Not → ⊥
  pub both : k ≡ Kind.And → ⊥
  pub either : k ≡ Kind.Or → ⊥
  pub implied : k ≡ Kind.Implies → ⊥

-- ---- the row

module _ (t : List ℤ) (r : ℕ) {k : Kind} (read : k ≡ kind_of (field_number (word t r 0))) where
  abbrev at_kind : ℕ → Row
  at_kind n = row_of n (word t r 1) (word t r 2) (word t r 3)

  pub of_kind : {j : Kind} {m : ℕ} → k ≡ j → number j ≡ suc m → row t r ≡ at_kind (suc m)
  of_kind e q = sym (row_is t r) ∙ ap at_kind (number_read read e q)

  pub operation : Operates k → row t r ≡ Row.Expression (Arithmetic (operator_of (number k)) (row_no (word t r 1)) (row_no (word t r 2)))
  unfolding row_of
  operation (inl e) = rw e (of_kind e refl)
  operation (inr (inl e)) = rw e (of_kind e refl)
  operation (inr (inr (inl e))) = rw e (of_kind e refl)
  operation (inr (inr (inr (inl e)))) = rw e (of_kind e refl)
  operation (inr (inr (inr (inr e)))) = rw e (of_kind e refl)

  pub comparison : Relates k → row t r ≡ Row.Formula (Comparison (relation_of (number k)) (row_no (word t r 1)) (row_no (word t r 2)))
  unfolding row_of
  comparison (inl e) = rw e (of_kind e refl)
  comparison (inr (inl e)) = rw e (of_kind e refl)
  comparison (inr (inr (inl e))) = rw e (of_kind e refl)
  comparison (inr (inr (inr e))) = rw e (of_kind e refl)

  pub junction : Connects k → row t r ≡ Row.Formula (Junction (connective_of (number k)) (row_no (word t r 1)) (row_no (word t r 2)))
  unfolding row_of
  junction (inl e) = rw e (of_kind e refl)
  junction (inr (inl e)) = rw e (of_kind e refl)
  junction (inr (inr e)) = rw e (of_kind e refl)

  -- ---- every other kind

  here : Fits (pos (field_number (word t r 0))) (word t r 1) (row t r)
  here = rw (sym (row_is t r)) (row_fits (pos (field_number (word t r 0))) (word t r 1) (word t r 2) (word t r 3))

  module _ (E : ℕ → Expr) (F : ℕ → Formula) where
    pub no_expression : PastExpressions k → expr_node E F (row t r) ≡ no_expr
    unfolding kind_of
    no_expression p = by (row t r) here
      where
        is_no : {j : Kind} {m : ℕ} → (k ≡ j → ⊥) → kind_of m ≡ j → pos (field_number (word t r 0)) ≡ pos m → ⊥
        is_no h q e = other_read read h q (pos_inj e)

        by : (w : Row) → Fits (pos (field_number (word t r 0))) (word t r 1) w → expr_node E F w ≡ no_expr
        by (Row.Expression (Constant z)) f = absurd (is_no p.constant refl f.0)
        by (Row.Expression (Variable v)) f = absurd (is_no p.variable refl f.0)
        by (Row.Expression (Arithmetic Plus x y)) f = absurd (is_no p.plus refl f)
        by (Row.Expression (Arithmetic Minus x y)) f = absurd (is_no p.minus refl f)
        by (Row.Expression (Arithmetic Times x y)) f = absurd (is_no p.times refl f)
        by (Row.Expression (Arithmetic Div x y)) f = absurd (is_no p.quotient refl f)
        by (Row.Expression (Arithmetic Mod x y)) f = absurd (is_no p.remainder refl f)
        by (Row.Expression (Negate x)) f = absurd (is_no p.negate refl f)
        by (Row.Expression (Mark m)) f = absurd (is_no p.mark refl f.0)
        by (Row.Expression (Choose x y z)) f = absurd (is_no p.choose refl f)
        by (Row.Formula w) f = refl
        by (Row.Statement w) f = refl
        by (Row.Note i v) f = refl
        by (Row.Script x y z) f = refl
        by Row.Unknown f = refl

    pub no_formula_here : PastFormulas k → formula_node E F (row t r) ≡ no_formula
    unfolding kind_of
    no_formula_here p = by (row t r) here
      where
        is_no : {j : Kind} {m : ℕ} → (k ≡ j → ⊥) → kind_of m ≡ j → pos (field_number (word t r 0)) ≡ pos m → ⊥
        is_no h q e = other_read read h q (pos_inj e)

        by : (w : Row) → Fits (pos (field_number (word t r 0))) (word t r 1) w → formula_node E F w ≡ no_formula
        by (Row.Formula True) f = refl
        by (Row.Formula False) f = absurd (is_no p.falsity refl f)
        by (Row.Formula (Comparison Less x y)) f = absurd (is_no p.less refl f)
        by (Row.Formula (Comparison AtMost x y)) f = absurd (is_no p.at_most refl f)
        by (Row.Formula (Comparison Equal x y)) f = absurd (is_no p.equal refl f)
        by (Row.Formula (Comparison Unequal x y)) f = absurd (is_no p.unequal refl f)
        by (Row.Formula (Not x)) f = absurd (is_no p.denial refl f)
        by (Row.Formula (Junction And x y)) f = absurd (is_no p.both refl f)
        by (Row.Formula (Junction Or x y)) f = absurd (is_no p.either refl f)
        by (Row.Formula (Junction Implies x y)) f = absurd (is_no p.implied refl f)
        by (Row.Expression w) f = refl
        by (Row.Statement w) f = refl
        by (Row.Note i v) f = refl
        by (Row.Script x y z) f = refl
        by Row.Unknown f = refl
