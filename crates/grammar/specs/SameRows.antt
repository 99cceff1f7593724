-- Rows that stand in a table (`Stands`), and what one row of it means: the tree at the row of a leaf, of a prefix or of
-- an operator (`leaf_means`, `prefix_means`, `infix_means`) is made of the trees at its parts. Assumes nothing.
use Rattle.std.specs.Prelude.{ℕ, suc, ◌+◌, ◌≡◌, refl, List, [], ◌∷◌, ◌++◌, Bool, cond, ℤ, pos, negsuc, length}
use Rattle.std.proofs.Common.{◌∙◌, subst, arith as linear}
use Rattle.std.proofs.Math.Option.{none}
use Rattle.std.proofs.Math.Bool.{true, false}
use Rattle.script.specs.declared.Operator.{Operator}
use Rattle.script.specs.declared.Operator.TheVariants.{Plus, Minus, Times, Div, Mod}
use Rattle.script.specs.declared.Relation.{Relation}
use Rattle.script.specs.declared.Relation.TheVariants.{Less, AtMost, Equal, Unequal}
use Rattle.script.specs.declared.Connective.{Connective}
use Rattle.script.specs.declared.Connective.TheVariants.{And, Or, Implies}
use Rattle.script.specs.declared.ExpressionRow.TheVariants.{Arithmetic}
use Rattle.script.specs.declared.FormulaRow.TheVariants.{Comparison, Junction}
use Rattle.script.specs.declared.Row.{Row}
use Rattle.script.specs.Rows.{row_of, row_no, row}
use Rattle.script.specs.Syntax.{truth}
use Rattle.script.specs.Trees.{script_node, expr as expr_in, formula as formula_in, stmt as stmt_in}
use Rattle.script.specs.Words.{op_word, rel_word, conn_word}
use Rattle.grammar.specs.Sorts.{Sort, number, expression, formula, statement, script}
use Rattle.grammar.specs.Operators.{Infix, semicolon, connective, relation, operator, infix_takes, infix_makes, Prefix, not_prefix, minus_prefix, assert_prefix, assign_prefix, prefix_takes, prefix_makes}
use Rattle.grammar.specs.Tokens.{Leaf, constant_leaf, number_leaf, variable_leaf, truth_leaf, skip_leaf, leaf_makes}
use Rattle.grammar.specs.Rows.{Quad, quad, leaf_rows, prefix_row, infix_kind}
use Rattle.grammar.specs.Trees.{Value, to_expr, to_formula, to_stmt, to_tree, leaf_value, prefix_value, infix_value}

abbrev pub kind_row : ℤ → Quad → Row
kind_row (pos n) q = row_of n q.first q.second q.third
kind_row (negsuc n) q = Row.Unknown

-- the row that four words are
abbrev pub quad_row : Quad → Row
quad_row q = kind_row q.kind q

-- ---- rows of operators

operator_quad : (o : Operator) (a b : ℕ) → quad_row (quad (op_word o) a b 0) ≡ Row.Expression (Arithmetic o (row_no (pos a)) (row_no (pos b)))
unfolding row_of
operator_quad Plus a b = refl
operator_quad Minus a b = refl
operator_quad Times a b = refl
operator_quad Div a b = refl
operator_quad Mod a b = refl

relation_quad : (r : Relation) (a b : ℕ) → quad_row (quad (rel_word r) a b 0) ≡ Row.Formula (Comparison r (row_no (pos a)) (row_no (pos b)))
unfolding row_of
relation_quad Less a b = refl
relation_quad AtMost a b = refl
relation_quad Equal a b = refl
relation_quad Unequal a b = refl

connective_quad : (c : Connective) (a b : ℕ) → quad_row (quad (conn_word c) a b 0) ≡ Row.Formula (Junction c (row_no (pos a)) (row_no (pos b)))
unfolding row_of
connective_quad And a b = refl
connective_quad Or a b = refl
connective_quad Implies a b = refl

module _ (ws : List ℤ) where
  -- rows that stand in the table from b on
  abbrev pub Stands : ℕ → List Quad → Type 0
  Stands b [] = Unit {0}
  Stands b (q ∷ qs) = (row ws b ≡ quad_row q) × Stands (suc b) qs

  pub stands_at : {b c : ℕ} (qs : List Quad) → b ≡ c → Stands b qs → Stands c qs
  stands_at qs e h = subst (λ (k : ℕ). Stands k qs) e h

  stands_split : (ps qs : List Quad) (b : ℕ) → Stands b (ps ++ qs) → Stands b ps × Stands (b + length ps) qs
  stands_split [] qs b h = (tt, stands_at qs (omega linear) h)
  stands_split (p ∷ ps) qs b h =
      let s = stands_split ps qs (suc b) h.1 in
      ((h.0, s.0), stands_at qs (omega linear) s.1)

  pub stands_parts : (ps qs : List Quad) (b n : ℕ) → length ps ≡ n → Stands b (ps ++ qs) → Stands b ps × Stands (b + n) qs
  stands_parts ps qs b n e h = let s = stands_split ps qs b h in (s.0, stands_at qs (omega linear) s.1)

  -- the tree at row r, by sort, at the bound n
  abbrev pub Means : Sort → ℕ → ℕ → Value → Type 0
  Means number n r v = Unit {0}
  Means expression n r v = expr_in ws n r ≡ to_expr v
  Means formula n r v = formula_in ws n r ≡ to_formula v
  Means statement n r v = stmt_in ws n r ≡ to_stmt v
  Means script n r v = script_node (expr_in ws n) (formula_in ws n) (stmt_in ws n) r (row ws r) ≡ to_tree v

  -- ---- one row

  truth_row : (b : Bool) (n r : ℕ) → row ws r ≡ quad_row (quad (cond b (pos 16) (pos 17)) 0 0 0) → formula_in ws (suc n) r ≡ truth b
  unfolding formula_in row_of
  truth_row true n r h = rw h
  truth_row false n r h = rw h

  pub leaf_means : (l : Leaf) (n r : ℕ) → Stands r (leaf_rows l) → Means (leaf_makes l) (suc n) r (leaf_value l)
  unfolding expr_in stmt_in row_of
  leaf_means (constant_leaf z) n r h = rw h.0
  leaf_means (number_leaf z) n r h = tt
  leaf_means (variable_leaf v) n r h = rw h.0
  leaf_means (truth_leaf b) n r h = truth_row b n r h.0
  leaf_means skip_leaf n r h = rw h.0

  pub prefix_means : (p : Prefix) (n r k : ℕ) (v : Value) → row ws r ≡ quad_row (prefix_row p k) → Means (prefix_takes p) n k v
      → Means (prefix_makes p) (suc n) r (prefix_value p none v)
  unfolding expr_in stmt_in row_of
  prefix_means not_prefix n r k v h m = rw (h, m)
  prefix_means minus_prefix n r k v h m = rw (h, m)
  prefix_means assert_prefix n r k v h m = rw (h, m)
  prefix_means (assign_prefix x) n r k v h m = rw (h, m)

  pub infix_means : (o : Infix) (n r i k : ℕ) (v w : Value) → row ws r ≡ quad_row (quad (infix_kind o) i k 0) → Means (infix_takes o) n i v
      → Means (infix_takes o) n k w → Means (infix_makes o) (suc n) r (infix_value o v w)
  unfolding expr_in stmt_in row_of
  infix_means semicolon n r i k v w h a b = rw (h, a, b)
  infix_means (connective c) n r i k v w h a b = rw (h ∙ connective_quad c i k, a, b)
  infix_means (relation q) n r i k v w h a b = rw (h ∙ relation_quad q i k, a, b)
  infix_means (operator o) n r i k v w h a b = rw (h ∙ operator_quad o i k, a, b)
