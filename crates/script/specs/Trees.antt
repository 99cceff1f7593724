-- The tree that an accepted table stands for, and its nesting. In an accepted table links fall, so a row number bounds the
-- depth below its row. What is no part of an accepted table stands for 0, true or skip. Assumes nothing.
use Rattle.std.specs.Prelude.{ℕ, zero, suc, ◌-◌, max, List, true, false, ℤ, pos}
use Rattle.script.specs.declared.ExpressionRow.TheVariants.{Constant, Variable, Arithmetic, Negate, Mark, Choose}
use Rattle.script.specs.declared.FormulaRow.TheVariants.{True, False, Comparison, Not, Junction}
use Rattle.script.specs.declared.StatementRow.TheVariants.{Skip, Assign, Sequence, If, While, Assert}
use Rattle.script.specs.declared.Row.{Row}
use Rattle.script.specs.Rows.{row, rows}
use Rattle.script.specs.Syntax.{Expr, const, var, mark, arith, neg, choose, Formula, truth, cmp, not, join, Stmt, skip, assign, seq, branch, loop, assert, Tree}

abbrev pub no_expr : Expr
no_expr = const (pos 0)

abbrev pub no_formula : Formula
no_formula = truth true

abbrev pub no_tree : ℕ → Tree
no_tree r = record { pre = no_formula; body = skip; post = no_formula; row = r }

-- ---- a row's tree, from the trees E and F of the rows that it links to

module _ (E : ℕ → Expr) (F : ℕ → Formula) where
  abbrev pub expr_node : Row → Expr
  expr_node (Row.Expression (Constant z)) = const z
  expr_node (Row.Expression (Variable v)) = var v.0
  expr_node (Row.Expression (Arithmetic o a b)) = arith o (E a.0) (E b.0)
  expr_node (Row.Expression (Negate a)) = neg (E a.0)
  expr_node (Row.Expression (Mark m)) = mark m.0
  expr_node (Row.Expression (Choose f a b)) = choose (F f.0) (E a.0) (E b.0)
  expr_node (Row.Formula w) = no_expr
  expr_node (Row.Statement w) = no_expr
  expr_node (Row.Note i v) = no_expr
  expr_node (Row.Script p s q) = no_expr
  expr_node Row.Unknown = no_expr

  abbrev pub formula_node : Row → Formula
  formula_node (Row.Formula True) = truth true
  formula_node (Row.Formula False) = truth false
  formula_node (Row.Formula (Comparison o a b)) = cmp o (E a.0) (E b.0)
  formula_node (Row.Formula (Not f)) = not (F f.0)
  formula_node (Row.Formula (Junction o f g)) = join o (F f.0) (F g.0)
  formula_node (Row.Expression w) = no_formula
  formula_node (Row.Statement w) = no_formula
  formula_node (Row.Note i v) = no_formula
  formula_node (Row.Script p s q) = no_formula
  formula_node Row.Unknown = no_formula

  -- the loop at row r, with its guard, its note and its body
  abbrev pub loop_node : ℕ → Formula → Row → Stmt → Stmt
  loop_node r b (Row.Note i v) x = loop r b (F i.0) (E v.0) x
  loop_node r b (Row.Expression w) x = skip
  loop_node r b (Row.Formula w) x = skip
  loop_node r b (Row.Statement w) x = skip
  loop_node r b (Row.Script p s q) x = skip
  loop_node r b Row.Unknown x = skip

  -- the statement at row r, from the statements S of its links and the rows N of its notes
  abbrev pub stmt_node : (ℕ → Stmt) → (ℕ → Row) → ℕ → Row → Stmt
  stmt_node S N r (Row.Statement Skip) = skip
  stmt_node S N r (Row.Statement (Assign v e)) = assign v.0 (E e.0)
  stmt_node S N r (Row.Statement (Sequence a b)) = seq (S a.0) (S b.0)
  stmt_node S N r (Row.Statement (If b x y)) = branch (F b.0) (S x.0) (S y.0)
  stmt_node S N r (Row.Statement (While b i x)) = loop_node r (F b.0) (N i.0) (S x.0)
  stmt_node S N r (Row.Statement (Assert f)) = assert (F f.0)
  stmt_node S N r (Row.Expression w) = skip
  stmt_node S N r (Row.Formula w) = skip
  stmt_node S N r (Row.Note i v) = skip
  stmt_node S N r (Row.Script p s q) = skip
  stmt_node S N r Row.Unknown = skip

  abbrev pub script_node : (ℕ → Stmt) → ℕ → Row → Tree
  script_node S r (Row.Script p s q) = record { pre = F p.0; body = S s.0; post = F q.0; row = r }
  script_node S r (Row.Expression w) = no_tree r
  script_node S r (Row.Formula w) = no_tree r
  script_node S r (Row.Statement w) = no_tree r
  script_node S r (Row.Note i v) = no_tree r
  script_node S r Row.Unknown = no_tree r

-- ---- the trees of a table; the first number bounds the depth

module _ (ws : List ℤ) where
  unfoldable mutual
    pub expr : ℕ → ℕ → Expr
    expr zero r = no_expr
    expr (suc n) r = expr_node (λ k. expr n k) (λ k. formula n k) (row ws r)

    pub formula : ℕ → ℕ → Formula
    formula zero r = no_formula
    formula (suc n) r = formula_node (λ k. expr n k) (λ k. formula n k) (row ws r)

  unfoldable pub stmt : ℕ → ℕ → Stmt
  stmt zero r = skip
  stmt (suc n) r = stmt_node (expr n) (formula n) (stmt n) (row ws) r (row ws r)

  unfoldable pub expr_at : ℕ → Expr
  expr_at r = expr (rows ws) r

  unfoldable pub formula_at : ℕ → Formula
  formula_at r = formula (rows ws) r

  unfoldable pub stmt_at : ℕ → Stmt
  stmt_at r = stmt (rows ws) r

  -- the tree of the whole table, whose last row is the script
  unfoldable pub tree : Tree
  tree = script_node expr_at formula_at stmt_at (rows ws - 1) (row ws (rows ws - 1))

-- "Nesting is the largest number of if and while rows on one path from the script down."
unfoldable pub nesting : Stmt → ℕ
nesting skip = 0
nesting (assign v e) = 0
nesting (seq a b) = max (nesting a) (nesting b)
nesting (branch b x y) = suc (max (nesting x) (nesting y))
nesting (loop m b i v x) = suc (nesting x)
nesting (assert a) = 0
