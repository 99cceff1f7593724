-- How many statements there are in a statement, sequences too (`size`): in an accepted table that of any row has at most as many as the
-- table has rows (`row_size`).
-- Argument: the statement at row r has at most r + 1 (`Counting.counted`). Assumes nothing.
use Prim.Native.Nat.{ℕ, zero, suc, ◌+◌, ◌≤◌, ◌<◌}
use Rattle.std.specs.Prelude.{◌≡◌, List, ℤ}
use Rattle.std.proofs.Math.Path.{refl, subst⁻¹}
use native.Mathlib.Omega.{arith as linear}
use Rattle.script.specs.declared.StatementRow.TheVariants.{Skip, Assign, Sequence, If, While, Assert}
use Rattle.script.specs.declared.Row.{Row}
use Rattle.script.specs.Syntax.{Formula, Stmt, skip, assign, seq, branch, loop, assert}
use Rattle.script.specs.Rows.{row, rows, parts}
use Rattle.script.specs.Trees.{loop_node, stmt_node, expr_at, formula_at, stmt, stmt_at}
use Rattle.theorems.specs.Accepted.{Accepted}
use Rattle.theorems.specs.RowTrees.{stmt_is}
use Rattle.theorems.specs.Counting.{part_sum, counted}
use Rattle.stepping.specs.Places.{by_place, row_beyond}

-- ---- how many statements there are in a statement

unfoldable pub size : Stmt → ℕ
size skip = 1
size (assign v e) = 1
size (seq a b) = suc (size a + size b)
size (branch b x y) = suc (size x + size y)
size (loop m b i v x) = suc (size x)
size (assert a) = 1

pub some_size : (x : Stmt) → 1 ≤ size x
unfolding size
some_size skip = omega linear
some_size (assign v e) = omega linear
some_size (seq a b) = omega linear
some_size (branch b x y) = omega linear
some_size (loop m b i v x) = omega linear
some_size (assert a) = omega linear

-- ---- how many statements a row has

module _ (t : List ℤ) (ok : Accepted t) where
  size_at : ℕ → ℕ
  size_at r = size (stmt_at t r)

  loop_size : (r : ℕ) (b : Formula) (w : Row) (x : Stmt) → size (loop_node (expr_at t) (formula_at t) r b w x) ≤ suc (size x)
  unfolding size
  loop_size r b (Row.Note i v) x = omega linear
  loop_size r b (Row.Expression w) x = omega linear
  loop_size r b (Row.Formula w) x = omega linear
  loop_size r b (Row.Statement w) x = omega linear
  loop_size r b (Row.Script p s q) x = omega linear
  loop_size r b Row.Unknown x = omega linear

  node_size : (r : ℕ) (w : Row)
      → size (stmt_node (expr_at t) (formula_at t) (stmt_at t) (row t) r w) ≤ suc (part_sum size_at (parts w))
  unfolding size part_sum size_at
  node_size r (Row.Statement Skip) = omega linear
  node_size r (Row.Statement (Assign v e)) = omega linear
  node_size r (Row.Statement (Sequence a b)) = omega linear
  node_size r (Row.Statement (If b x y)) = omega linear
  node_size r (Row.Statement (While b i x)) =
      let p = loop_size r (formula_at t b.0) (row t i.0) (stmt_at t x.0) in omega linear
  node_size r (Row.Statement (Assert f)) = omega linear
  node_size r (Row.Expression w) = omega linear
  node_size r (Row.Formula w) = omega linear
  node_size r (Row.Note i v) = omega linear
  node_size r (Row.Script p s q) = omega linear
  node_size r Row.Unknown = omega linear

  grows : (r : ℕ) → r < rows t → size_at r ≤ suc (part_sum size_at (parts (row t r)))
  unfolding size_at
  grows r h = subst⁻¹ (λ (x : Stmt). size x ≤ suc (part_sum size_at (parts (row t r)))) (stmt_is t ok r h refl) (node_size r (row t r))

  inside_size : (r : ℕ) → r < rows t → size (stmt_at t r) ≤ suc r
  unfolding size_at
  inside_size r h = counted t ok size_at grows r h

  -- a row past the table stands for skip
  outside_size : (r : ℕ) → rows t ≤ r → size (stmt_at t r) ≡ 1
  unfolding size stmt_at stmt
  outside_size r h = by (rows t)
    where
      by : (n : ℕ) → size (stmt t n r) ≡ 1
      by zero = refl
      by (suc n) = rw (row_beyond t ok r h)

  -- so any row at all has at most as many statements as the table has rows
  pub row_size : (r : ℕ) → size (stmt_at t r) ≤ rows t
  row_size r =
      let f = ok.filled in
      by_place t r (λ h. let s = inside_size r h in omega linear) (λ h. let s = outside_size r h in omega linear)
