-- The tree that a phrase stands for (`value`), with the rows of its loops. Assumes nothing.
use Rattle.std.specs.Prelude.{ℕ, ◌+◌, List, [], ◌∷◌, pos, get_or}
use Rattle.std.proofs.Math.Option.{Option, none, some}
use Rattle.script.specs.Syntax.{Expr, const, var, mark, arith, neg, choose, Formula, truth, cmp, not, join, Stmt, skip, assign, seq, branch, loop, assert, Tree}
use Rattle.script.specs.Trees.{no_expr, no_formula, no_tree}
use Rattle.grammar.specs.Operators.{Infix, semicolon, connective, relation, operator, Prefix, not_prefix, minus_prefix, assert_prefix, assign_prefix}
use Rattle.grammar.specs.Forms.{Place, in_group, in_mark, when_first, when_second, when_third, if_guard, if_then, if_else, while_guard, while_keep, while_fall, while_body, script_pre, script_body, script_post}
use Rattle.grammar.specs.Tokens.{Leaf, constant_leaf, number_leaf, variable_leaf, truth_leaf, skip_leaf}
use Rattle.grammar.specs.Grammar.{Phrase, leaf, before, between, closed, Chain, begun, more, place}
use Rattle.grammar.specs.Counts.{negated, minus, form_size, size, chain_size, last}
use Rattle.grammar.specs.Rows.{nth_loop, counts, by_row, inside}

-- ---- trees

pub data Value : Type 0 where
  number_value : ℕ → Value
  expr_value : Expr → Value
  formula_value : Formula → Value
  stmt_value : Stmt → Value
  script_value : Tree → Value

abbrev pub to_expr : Value → Expr
to_expr (number_value n) = no_expr
to_expr (expr_value e) = e
to_expr (formula_value f) = no_expr
to_expr (stmt_value s) = no_expr
to_expr (script_value t) = no_expr

abbrev pub to_formula : Value → Formula
to_formula (number_value n) = no_formula
to_formula (expr_value e) = no_formula
to_formula (formula_value f) = f
to_formula (stmt_value s) = no_formula
to_formula (script_value t) = no_formula

abbrev pub to_stmt : Value → Stmt
to_stmt (number_value n) = skip
to_stmt (expr_value e) = skip
to_stmt (formula_value f) = skip
to_stmt (stmt_value s) = s
to_stmt (script_value t) = skip

abbrev pub to_tree : Value → Tree
to_tree (number_value n) = no_tree 0
to_tree (expr_value e) = no_tree 0
to_tree (formula_value f) = no_tree 0
to_tree (stmt_value s) = no_tree 0
to_tree (script_value t) = t

abbrev pub leaf_value : Leaf → Value
leaf_value (constant_leaf n) = expr_value (const (pos n))
leaf_value (number_leaf n) = number_value n
leaf_value (variable_leaf v) = expr_value (var v)
leaf_value (truth_leaf b) = formula_value (truth b)
leaf_value skip_leaf = stmt_value skip

abbrev pub prefix_value : Prefix → Option ℕ → Value → Value
prefix_value p (some n) v = expr_value (const (minus n))
prefix_value not_prefix none v = formula_value (not (to_formula v))
prefix_value minus_prefix none v = expr_value (neg (to_expr v))
prefix_value assert_prefix none v = stmt_value (assert (to_formula v))
prefix_value (assign_prefix x) none v = stmt_value (assign x (to_expr v))

abbrev pub infix_value : Infix → Value → Value → Value
infix_value semicolon v w = stmt_value (seq (to_stmt v) (to_stmt w))
infix_value (connective c) v w = formula_value (join c (to_formula v) (to_formula w))
infix_value (relation r) v w = formula_value (cmp r (to_expr v) (to_expr w))
infix_value (operator o) v w = expr_value (arith o (to_expr v) (to_expr w))

abbrev pub nth : List Value → ℕ → Value
nth vs i = get_or vs i (number_value 0)

-- "when(F, E, E) is choose". The form at row r, with the parts vs before the last, latest first, and the last v; m is
-- the loop of a mark
abbrev pub form_value : Place → ℕ → ℕ → List Value → Value → Value
form_value in_group r m vs v = v
form_value in_mark r m vs v = expr_value (mark m)
form_value when_first r m vs v = v
form_value when_second r m vs v = v
form_value when_third r m vs v = expr_value (choose (to_formula (nth vs 1)) (to_expr (nth vs 0)) (to_expr v))
form_value if_guard r m vs v = v
form_value if_then r m vs v = v
form_value if_else r m vs v = stmt_value (branch (to_formula (nth vs 1)) (to_stmt (nth vs 0)) (to_stmt v))
form_value while_guard r m vs v = v
form_value while_keep r m vs v = v
form_value while_fall r m vs v = v
form_value while_body r m vs v = stmt_value (loop r (to_formula (nth vs 2)) (to_formula (nth vs 1)) (to_expr (nth vs 0)) (to_stmt v))
form_value script_pre r m vs v = v
form_value script_body r m vs v = v
form_value script_post r m vs v =
    script_value (record { pre = to_formula (nth vs 1); body = to_stmt (nth vs 0); post = to_formula v; row = r })

unfoldable mutual
  pub value : List ℕ → ℕ → Phrase → Value
  value ls b (leaf l) = leaf_value l
  value ls b (before p x) = prefix_value p (negated p x) (value ls b x)
  value ls b (between o x y) = infix_value o (value ls b x) (value ls (b + size x) y)
  value ls b (closed c x) =
      let r = last b (chain_size c + size x + form_size (place c)) in
      form_value (place c) r (nth_loop ls (counts x)) (chain_values ls b c)
      (value (inside by_row (place c) r ls) (b + chain_size c) x)

  -- latest first
  pub chain_values : List ℕ → ℕ → Chain → List Value
  chain_values ls b (begun f) = []
  chain_values ls b (more c x q) = value ls (b + chain_size c) x ∷ chain_values ls b c
