-- 02, P11, by rows: in an accepted table there are at most as many statements in the script's as there are rows (`body_statements`), and a
-- table with no while row has no loop (`no_while`). So for such a table as many steps as it has rows are enough: with such a limit 54
-- never comes (`rows_enough`).
-- Argument: a row has no more statements in it than the table has rows (`Sizes`); links fall. Assumes nothing.
use Rattle.std.specs.Prelude.{ℕ, zero, suc, ◌-◌, ◌≤◌, ◌<◌, ◌≡◌, refl, ◌≢◌, List, ℤ, T}
use Rattle.std.proofs.Math.Path.{subst⁻¹}
use Rattle.std.proofs.Common.{arith as linear}
use Rattle.script.specs.declared.StatementRow.TheVariants.{Skip, Assign, Sequence, If, While, Assert}
use Rattle.script.specs.declared.Row.{Row}
use Rattle.script.specs.declared.Sort.TheVariants.{Script}
use Rattle.script.specs.Syntax.{Stmt, skip, assign, seq, branch, loop, assert}
use Rattle.script.specs.Rows.{row, rows, sort_of}
use Rattle.script.specs.Trees.{stmt_node, expr_at, formula_at, stmt_at, tree}
use Rattle.script.specs.Refusals.{accepted, verdict, same_sort}
use Rattle.theorems.specs.Accepted.{Accepted, passed}
use Rattle.theorems.specs.RowTrees.{below, lower₂, lower₃, stmt_is}
use Rattle.stepping.specs.Machine.{Mode, statement_of, machine_run}
use Rattle.stepping.specs.Sizes.{size, row_size}
use Rattle.stepping.specs.Calls.{body_at}
use Rattle.stepping.specs.LoopFree.{LoopFree, statements, free_never_spent}

-- no while row
abbrev pub NoWhile : Row → Type 0
NoWhile (Row.Statement (While b i x)) = ⊥
NoWhile (Row.Statement Skip) = Unit {0}
NoWhile (Row.Statement (Assign v e)) = Unit {0}
NoWhile (Row.Statement (Sequence a b)) = Unit {0}
NoWhile (Row.Statement (If b x y)) = Unit {0}
NoWhile (Row.Statement (Assert f)) = Unit {0}
NoWhile (Row.Expression w) = Unit {0}
NoWhile (Row.Formula w) = Unit {0}
NoWhile (Row.Note i v) = Unit {0}
NoWhile (Row.Script p s q) = Unit {0}
NoWhile Row.Unknown = Unit {0}

-- sequences apart there are fewer
fewer : (x : Stmt) → statements x ≤ size x
unfolding statements size
fewer skip = omega linear
fewer (assign v e) = omega linear
fewer (seq a b) = let p = fewer a in let q = fewer b in omega linear
fewer (branch b x y) = let p = fewer x in let q = fewer y in omega linear
fewer (loop m b i v x) = let p = fewer x in omega linear
fewer (assert a) = omega linear

module _ (t : List ℤ) (ok : Accepted t) where
  -- ---- statements and rows

  -- the row of the script's statement is below the last
  body_below : (w : Row) → row t (rows t - 1) ≡ w → T (same_sort (sort_of w) Script) → statement_of w < rows t - 1
  body_below (Row.Script p s q) e h =
      let filled = ok.filled in
      (lower₃ p.0 s.0 q.0 (rows t - 1) (below t ok (rows t - 1) (omega linear) e)).1.0
  body_below (Row.Expression w) e h = absurd h
  body_below (Row.Formula w) e h = absurd h
  body_below (Row.Statement w) e h = absurd h
  body_below (Row.Note i v) e h = absurd h
  body_below Row.Unknown e h = absurd h

  pub body_statements : statements (tree t).body ≤ rows t
  body_statements =
      let r = statement_of (row t (rows t - 1)) in
      let l = fewer (stmt_at t r) in
      let c = row_size t ok r in
      subst⁻¹ (λ (x : Stmt). statements x ≤ rows t) (body_at t ok) (omega linear)

  -- ---- no while, no loop

  module _ (none : (r : ℕ) → r < rows t → NoWhile (row t r)) where
    free_node : (r : ℕ) → r < rows t → ((k : ℕ) → k < r → LoopFree (stmt_at t k)) → (w : Row) → row t r ≡ w → NoWhile w
        → LoopFree (stmt_node (expr_at t) (formula_at t) (stmt_at t) (row t) r w)
    free_node r h lower (Row.Statement Skip) e n = tt
    free_node r h lower (Row.Statement (Assign v x)) e n = tt
    free_node r h lower (Row.Statement (Sequence a b)) e n =
        let d = lower₂ a.0 b.0 r (below t ok r h e) in (lower a.0 d.0, lower b.0 d.1)
    free_node r h lower (Row.Statement (If b x y)) e n =
        let d = lower₃ b.0 x.0 y.0 r (below t ok r h e) in (lower x.0 d.1.0, lower y.0 d.1.1)
    free_node r h lower (Row.Statement (While b i x)) e n = absurd n
    free_node r h lower (Row.Statement (Assert f)) e n = tt
    free_node r h lower (Row.Expression w) e n = tt
    free_node r h lower (Row.Formula w) e n = tt
    free_node r h lower (Row.Note i v) e n = tt
    free_node r h lower (Row.Script p s q) e n = tt
    free_node r h lower Row.Unknown e n = tt

    free_below : (n r : ℕ) → r < n → r < rows t → LoopFree (stmt_at t r)
    free_below zero r l h = absurd (omega linear)
    free_below (suc n) r l h =
        subst⁻¹ LoopFree (stmt_is t ok r h refl)
        (free_node r h (λ k m. free_below n k (omega linear) (omega linear)) (row t r) refl (none r h))

    pub no_while : LoopFree (tree t).body
    no_while =
        let r = statement_of (row t (rows t - 1)) in
        let l = body_below (row t (rows t - 1)) refl ok.script in
        subst⁻¹ LoopFree (body_at t ok) (free_below (suc r) r (omega linear) (omega linear))

pub rows_enough : (M : Mode) (t : List ℤ) (stack : List ℕ) (vars marks : List ℤ) (limit : ℕ) → verdict t ≡ accepted
    → ((r : ℕ) → r < rows t → NoWhile (row t r)) → rows t ≤ limit → (machine_run M t stack vars marks limit).number ≢ 54
rows_enough M t stack vars marks limit h none l =
    let c = body_statements t (passed t h) in
    free_never_spent M t stack vars marks limit (no_while t (passed t h) none) (omega linear)
