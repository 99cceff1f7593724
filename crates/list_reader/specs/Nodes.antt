-- What a word opens, as an expression and as a formula: the node of the row that it and the next word would begin. Assumes nothing.
use Rattle.std.specs.Prelude.{ℕ, ◌≡◌, List, [], ◌∷◌, Bool, true, false, ℤ, pos, ltb, get_or, drop}
use Rattle.script.specs.declared.ExpressionRow.TheVariants.{Constant, Variable, Arithmetic, Negate, Mark, Choose}
use Rattle.script.specs.declared.FormulaRow.TheVariants.{True, False, Comparison, Not, Junction}
use Rattle.script.specs.declared.Row.{Row}
use Rattle.script.specs.Rows.{field_number, row_of, variables}
use Rattle.script.specs.Listing.{row_limit}
use Rattle.list_reader.specs.declared.formulas.ExpressionNode.{ExpressionNode}
use Rattle.list_reader.specs.declared.formulas.ExpressionNode.TheVariants as E
use Rattle.list_reader.specs.declared.formulas.FormulaNode.{FormulaNode}
use Rattle.list_reader.specs.declared.formulas.FormulaNode.TheVariants as F

-- a number, where it is in range
abbrev pub number : Bool → ExpressionNode
number true = E.Number
number false = E.Nothing

abbrev pub expression_node : Row → ExpressionNode
expression_node (Row.Expression (Constant z)) = E.Number
expression_node (Row.Expression (Variable v)) = number (ltb v.0 variables)
expression_node (Row.Expression (Arithmetic o a b)) = E.Arithmetic
expression_node (Row.Expression (Negate a)) = E.Negate
expression_node (Row.Expression (Mark m)) = number (ltb m.0 row_limit)
expression_node (Row.Expression (Choose f a b)) = E.Choose
expression_node (Row.Formula f) = E.Nothing
expression_node (Row.Statement s) = E.Nothing
expression_node (Row.Note i v) = E.Nothing
expression_node (Row.Script p s q) = E.Nothing
expression_node Row.Unknown = E.Nothing

abbrev pub formula_node : Row → FormulaNode
formula_node (Row.Expression e) = F.Nothing
formula_node (Row.Formula True) = F.Truth
formula_node (Row.Formula False) = F.Truth
formula_node (Row.Formula (Comparison o a b)) = F.Comparison
formula_node (Row.Formula (Not f)) = F.Not
formula_node (Row.Formula (Junction o f g)) = F.Junction
formula_node (Row.Statement s) = F.Nothing
formula_node (Row.Note i v) = F.Nothing
formula_node (Row.Script p s q) = F.Nothing
formula_node Row.Unknown = F.Nothing

-- the row that the first word begins
abbrev pub first_row : List ℤ → Row
first_row [] = Row.Unknown
first_row (w ∷ ws) = row_of (field_number w) (get_or ws 0 (pos 0)) (pos 0) (pos 0)

-- the word at a place opens the node k
pub record Opens {K : Type 0} (node : Row → K) (ws : List ℤ) (at : ℕ) (k : K) : Type 0 where
  pub is : k ≡ node (first_row (drop at ws))
