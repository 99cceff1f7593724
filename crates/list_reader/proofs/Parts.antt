-- What is left after a node, by what its word opens: the words after its parts, read one after the other. Assumes nothing.
use Prim.Native.Nat.{ℕ, suc}
use mathlib.Core.Path.{◌≡◌, refl}
use mathlib.Core.Option.{Option, none, some}
use mathlib.Core.List.{List, [], ◌∷◌}
use mathlib.Core.Bool.{Bool, true, false}
use lib.IntN.{ℤ, pos}
use lib.Dec.{ltb}
use lib.ListN.{get_or, drop}
use Rattle.script.specs.declared.ExpressionRow.TheVariants.{Constant, Variable, Arithmetic, Negate, Mark, Choose}
use Rattle.script.specs.declared.FormulaRow.TheVariants.{True, False, Comparison, Not, Junction}
use Rattle.script.specs.declared.Row.{Row}
use Rattle.script.specs.Syntax.{var, mark, arith, neg, choose, const, cmp, not, join}
use Rattle.script.specs.Rows.{field_number, row_of, variables}
use Rattle.script.specs.Listing.{◌>>=◌, guarded, Read, read, next, past_number, row_limit, read_expr, read_expr_within, read_formula}
use Rattle.list_reader.specs.declared.formulas.ExpressionNode.{ExpressionNode}
use Rattle.list_reader.specs.declared.formulas.ExpressionNode.TheVariants as E
use Rattle.list_reader.specs.declared.formulas.FormulaNode.{FormulaNode}
use Rattle.list_reader.specs.declared.formulas.FormulaNode.TheVariants as F
use Rattle.list_reader.specs.Nodes.{number, expression_node, formula_node, first_row}
use Rattle.list_reader.specs.Ends.{rest_of, past, after_expression, after_formula}

abbrev pub expression_parts : ℕ → ExpressionNode → List ℤ → Option (List ℤ)
expression_parts n E.Number ws = past ws
expression_parts n E.Negate ws = after_expression n ws
expression_parts n E.Arithmetic ws = after_expression n ws >>= after_expression n
expression_parts n E.Choose ws = after_formula n ws >>= after_expression n >>= after_expression n
expression_parts n E.Nothing ws = none

abbrev pub formula_parts : ℕ → FormulaNode → List ℤ → Option (List ℤ)
formula_parts n F.Truth ws = some ws
formula_parts n F.Comparison ws = after_expression n ws >>= after_expression n
formula_parts n F.Not ws = after_formula n ws
formula_parts n F.Junction ws = after_formula n ws >>= after_formula n
formula_parts n F.Nothing ws = none

-- ---- what is made of the parts changes nothing of what is left

one : {A B : Type 0} (o : Option (Read A)) (f : Read A → B) → rest_of (o >>= λ a. read (f a) a.rest) ≡ rest_of o
one none f = refl
one (some a) f = refl

two : {A B C : Type 0} (o : Option (Read A)) (p : List ℤ → Option (Read B)) (f : Read A → Read B → C)
    → rest_of (o >>= λ a. p a.rest >>= λ b. read (f a b) b.rest) ≡ rest_of o >>= λ us. rest_of (p us)
two none p f = refl
two (some a) p f = one (p a.rest) (f a)

three : {A B C D : Type 0} (o : Option (Read A)) (p : List ℤ → Option (Read B)) (q : List ℤ → Option (Read C)) (f : Read A → Read B → Read C → D)
    → rest_of (o >>= λ a. p a.rest >>= λ b. q b.rest >>= λ c. read (f a b c) c.rest)
    ≡ rest_of o >>= (λ us. rest_of (p us)) >>= λ us. rest_of (q us)
three none p q f = refl
three (some a) p q f = two (p a.rest) q (f a)

numbered : {A : Type 0} (n : ℕ) (a : A) (right : Bool) (ws : List ℤ)
    → rest_of (guarded right (past_number a ws)) ≡ expression_parts n (number right) ws
numbered n a true [] = refl
numbered n a true (w ∷ ws) = refl
numbered n a false ws = refl

-- ---- by the row of the word

expression_row : (n : ℕ) (w : Row) (ws : List ℤ) → rest_of (read_expr (suc n) w ws) ≡ expression_parts n (expression_node w) ws
unfolding read_expr_within after_expression after_formula
expression_row n (Row.Expression (Constant z)) ws = numbered n (const z) true ws
expression_row n (Row.Expression (Variable v)) ws = numbered n (var v.0) (ltb v.0 variables) ws
expression_row n (Row.Expression (Mark m)) ws = numbered n (mark m.0) (ltb m.0 row_limit) ws
expression_row n (Row.Expression (Arithmetic o x y)) ws = two (next (read_expr n) ws) (next (read_expr n)) (λ a b. arith o a.got b.got)
expression_row n (Row.Expression (Negate x)) ws = one (next (read_expr n) ws) (λ a. neg a.got)
expression_row n (Row.Expression (Choose x y z)) ws =
    three (next (read_formula n) ws) (next (read_expr n)) (next (read_expr n)) (λ f a b. choose f.got a.got b.got)
expression_row n (Row.Formula f) ws = refl
expression_row n (Row.Statement s) ws = refl
expression_row n (Row.Note x y) ws = refl
expression_row n (Row.Script x y z) ws = refl
expression_row n Row.Unknown ws = refl

formula_row : (n : ℕ) (w : Row) (ws : List ℤ) → rest_of (read_formula (suc n) w ws) ≡ formula_parts n (formula_node w) ws
unfolding read_expr_within after_expression after_formula
formula_row n (Row.Expression e) ws = refl
formula_row n (Row.Formula True) ws = refl
formula_row n (Row.Formula False) ws = refl
formula_row n (Row.Formula (Comparison o x y)) ws = two (next (read_expr n) ws) (next (read_expr n)) (λ a b. cmp o a.got b.got)
formula_row n (Row.Formula (Not x)) ws = one (next (read_formula n) ws) (λ a. not a.got)
formula_row n (Row.Formula (Junction o x y)) ws = two (next (read_formula n) ws) (next (read_formula n)) (λ a b. join o a.got b.got)
formula_row n (Row.Statement s) ws = refl
formula_row n (Row.Note x y) ws = refl
formula_row n (Row.Script x y z) ws = refl
formula_row n Row.Unknown ws = refl

-- ---- by the node of the first word

pub expression_next : (n : ℕ) (ws : List ℤ) → after_expression (suc n) ws ≡ expression_parts n (expression_node (first_row ws)) (drop 1 ws)
unfolding after_expression
expression_next n [] = refl
expression_next n (w ∷ ws) = expression_row n (row_of (field_number w) (get_or ws 0 (pos 0)) (pos 0) (pos 0)) ws

pub formula_next : (n : ℕ) (ws : List ℤ) → after_formula (suc n) ws ≡ formula_parts n (formula_node (first_row ws)) (drop 1 ws)
unfolding after_formula
formula_next n [] = refl
formula_next n (w ∷ ws) = formula_row n (row_of (field_number w) (get_or ws 0 (pos 0)) (pos 0) (pos 0)) ws
