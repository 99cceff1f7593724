-- In an accepted table the tree at a row is made of the trees at its links: `expr_is`, `formula_is`, `stmt_is`, `tree_is`.
-- Argument: links fall, so a row's tree is the same at every bound above its number (`steady`, by induction on the bounds).
-- Assumes nothing.
use Prim.Native.Nat.{ℕ, zero, suc, ◌-◌, ◌≤◌, ◌<◌}
use Rattle.std.specs.Prelude.{◌≡◌, true, ◌&&◌, List, T, ltb, ℤ}
use Rattle.std.proofs.Math.Path.{refl, ap}
use Rattle.std.proofs.Common.{◌∙◌, arith as linear, ltb→lt}
use Rattle.script.specs.declared.ExpressionRow.TheVariants.{Constant, Variable, Arithmetic, Negate, Mark, Choose}
use Rattle.script.specs.declared.FormulaRow.TheVariants.{True, False, Comparison, Not, Junction}
use Rattle.script.specs.declared.StatementRow.TheVariants.{Skip, Assign, Sequence, If, While, Assert}
use Rattle.script.specs.declared.Row.{Row}
use Rattle.script.specs.Syntax.{Expr, Formula, Stmt}
use Rattle.script.specs.Rows.{row, rows, parts}
use Rattle.script.specs.Trees.{expr_node, formula_node, loop_node, stmt_node, script_node, expr, formula, stmt, expr_at, formula_at, stmt_at, tree}
use Rattle.script.specs.Refusals.{all_below}
use Rattle.theorems.specs.Accepted.{Accepted, both}

-- ---- links that are lower

pub lower₁ : (x r : ℕ) → T (ltb x r && true) → x < r
lower₁ x r h = ltb→lt x r (both (ltb x r) true h).0

pub lower₂ : (x y r : ℕ) → T (ltb x r && (ltb y r && true)) → (x < r) × (y < r)
lower₂ x y r h = (ltb→lt x r (both (ltb x r) (ltb y r && true) h).0, lower₁ y r (both (ltb x r) (ltb y r && true) h).1)

pub lower₃ : (x y z r : ℕ) → T (ltb x r && (ltb y r && (ltb z r && true))) → (x < r) × ((y < r) × (z < r))
lower₃ x y z r h =
    let s = both (ltb x r) (ltb y r && (ltb z r && true)) h in
    (ltb→lt x r s.0, lower₂ y z r s.1)

-- the links of a row that is known are lower
pub below : (t : List ℤ) → Accepted t → (r : ℕ) {w : Row} → r < rows t → row t r ≡ w → T (all_below t r (parts w))
below t ok r h e = rw e at (ok.ordered r h)

-- ---- a node's tree depends on the trees of lower rows alone

abbrev Agree : {A : Type 0} → (ℕ → A) → (ℕ → A) → ℕ → Type 0
Agree f g r = (k : ℕ) → k < r → f k ≡ g k

module _ (t : List ℤ) (E E' : ℕ → Expr) (F F' : ℕ → Formula) (r : ℕ) (es : Agree E E' r) (fs : Agree F F' r) where
  expr_same : (w : Row) → T (all_below t r (parts w)) → expr_node E F w ≡ expr_node E' F' w
  expr_same (Row.Expression (Constant z)) l = refl
  expr_same (Row.Expression (Variable v)) l = refl
  expr_same (Row.Expression (Arithmetic o a b)) l =
      let d = lower₂ a.0 b.0 r l in
      rw (es a.0 d.0, es b.0 d.1)
  expr_same (Row.Expression (Negate a)) l = rw (es a.0 (lower₁ a.0 r l))
  expr_same (Row.Expression (Mark m)) l = refl
  expr_same (Row.Expression (Choose f a b)) l =
      let d = lower₃ f.0 a.0 b.0 r l in
      rw (fs f.0 d.0, es a.0 d.1.0, es b.0 d.1.1)
  expr_same (Row.Formula w) l = refl
  expr_same (Row.Statement w) l = refl
  expr_same (Row.Note i v) l = refl
  expr_same (Row.Script p s q) l = refl
  expr_same Row.Unknown l = refl

  formula_same : (w : Row) → T (all_below t r (parts w)) → formula_node E F w ≡ formula_node E' F' w
  formula_same (Row.Formula True) l = refl
  formula_same (Row.Formula False) l = refl
  formula_same (Row.Formula (Comparison o a b)) l =
      let d = lower₂ a.0 b.0 r l in
      rw (es a.0 d.0, es b.0 d.1)
  formula_same (Row.Formula (Not f)) l = rw (fs f.0 (lower₁ f.0 r l))
  formula_same (Row.Formula (Junction o f g)) l =
      let d = lower₂ f.0 g.0 r l in
      rw (fs f.0 d.0, fs g.0 d.1)
  formula_same (Row.Expression w) l = refl
  formula_same (Row.Statement w) l = refl
  formula_same (Row.Note i v) l = refl
  formula_same (Row.Script p s q) l = refl
  formula_same Row.Unknown l = refl

  -- the note stands at row i
  loop_same : (q i : ℕ) (b : Formula) (w : Row) (x : Stmt) → i ≤ r → T (all_below t i (parts w))
      → loop_node E F q b w x ≡ loop_node E' F' q b w x
  loop_same q i b (Row.Note f v) x h l =
      let d = lower₂ f.0 v.0 i l in
      rw (fs f.0 (omega linear), es v.0 (omega linear))
  loop_same q i b (Row.Expression w) x h l = refl
  loop_same q i b (Row.Formula w) x h l = refl
  loop_same q i b (Row.Statement w) x h l = refl
  loop_same q i b (Row.Script p s z) x h l = refl
  loop_same q i b Row.Unknown x h l = refl

  stmt_same : (S S' : ℕ → Stmt) → Agree S S' r → ((k : ℕ) → k < r → T (all_below t k (parts (row t k)))) → (w : Row)
      → T (all_below t r (parts w)) → stmt_node E F S (row t) r w ≡ stmt_node E' F' S' (row t) r w
  stmt_same S S' ss low (Row.Statement Skip) l = refl
  stmt_same S S' ss low (Row.Statement (Assign v e)) l = rw (es e.0 (lower₁ e.0 r l))
  stmt_same S S' ss low (Row.Statement (Sequence a b)) l =
      let d = lower₂ a.0 b.0 r l in
      rw (ss a.0 d.0, ss b.0 d.1)
  stmt_same S S' ss low (Row.Statement (If b x y)) l =
      let d = lower₃ b.0 x.0 y.0 r l in
      rw (fs b.0 d.0, ss x.0 d.1.0, ss y.0 d.1.1)
  stmt_same S S' ss low (Row.Statement (While b i x)) l =
      let d = lower₃ b.0 i.0 x.0 r l in
      rw (fs b.0 d.0, ss x.0 d.1.1)
      (loop_same r i.0 (F' b.0) (row t i.0) (S' x.0) (omega linear) (low i.0 d.1.0))
  stmt_same S S' ss low (Row.Statement (Assert f)) l = rw (fs f.0 (lower₁ f.0 r l))
  stmt_same S S' ss low (Row.Expression w) l = refl
  stmt_same S S' ss low (Row.Formula w) l = refl
  stmt_same S S' ss low (Row.Note i v) l = refl
  stmt_same S S' ss low (Row.Script p s q) l = refl
  stmt_same S S' ss low Row.Unknown l = refl

-- ---- every bound above the row gives the same tree

none : {r : ℕ} → r < zero → ⊥
none h = omega linear

module _ (t : List ℤ) (ok : Accepted t) where
  record Steady (n m : ℕ) : Type 0 where
    pub exprs : (r : ℕ) → r < n → r < m → r < rows t → expr t n r ≡ expr t m r
    pub formulas : (r : ℕ) → r < n → r < m → r < rows t → formula t n r ≡ formula t m r
    pub stmts : (r : ℕ) → r < n → r < m → r < rows t → stmt t n r ≡ stmt t m r

  -- trees at the bounds suc n and suc m are nodes over trees at n and m
  module _ (n m : ℕ) (s : Steady n m) (r : ℕ) (h : r < suc n) (k : r < suc m) (g : r < rows t) where
    es : Agree (expr t n) (expr t m) r
    es i l = s.exprs i (omega linear) (omega linear) (omega linear)

    fs : Agree (formula t n) (formula t m) r
    fs i l = s.formulas i (omega linear) (omega linear) (omega linear)

    ss : Agree (stmt t n) (stmt t m) r
    ss i l = s.stmts i (omega linear) (omega linear) (omega linear)

    low : (i : ℕ) → i < r → T (all_below t i (parts (row t i)))
    low i l = ok.ordered i (omega linear)

    next_expr : expr t (suc n) r ≡ expr t (suc m) r
    unfolding expr
    next_expr = expr_same t (expr t n) (expr t m) (formula t n) (formula t m) r es fs (row t r) (ok.ordered r g)

    next_formula : formula t (suc n) r ≡ formula t (suc m) r
    unfolding expr
    next_formula = formula_same t (expr t n) (expr t m) (formula t n) (formula t m) r es fs (row t r) (ok.ordered r g)

    next_stmt : stmt t (suc n) r ≡ stmt t (suc m) r
    unfolding stmt
    next_stmt =
        stmt_same t (expr t n) (expr t m) (formula t n) (formula t m) r es fs (stmt t n) (stmt t m) ss low (row t r)
        (ok.ordered r g)

  steady : (n m : ℕ) → Steady n m
  steady zero m = record {
    exprs = λ r h. absurd (none h);
    formulas = λ r h. absurd (none h);
    stmts = λ r h. absurd (none h);
  }
  steady (suc n) zero = record {
    exprs = λ r h k. absurd (none k);
    formulas = λ r h k. absurd (none k);
    stmts = λ r h k. absurd (none k);
  }
  steady (suc n) (suc m) = record {
    exprs = next_expr n m (steady n m);
    formulas = next_formula n m (steady n m);
    stmts = next_stmt n m (steady n m);
  }

  -- ---- the trees at a row number

  -- the node over the trees at a bound is the tree at the next: bridged to the bound that `expr_at` has
  to_at : (n : ℕ) → suc n ≡ rows t → (r : ℕ) → r < rows t
      → Agree (expr t n) (expr_at t) r × Agree (formula t n) (formula_at t) r × Agree (stmt t n) (stmt_at t) r
  unfolding expr_at formula_at stmt_at
  to_at n e r h =
      let s = steady n (rows t) in (
        λ k l. s.exprs k (omega linear) (omega linear) (omega linear),
        λ k l. s.formulas k (omega linear) (omega linear) (omega linear),
        λ k l. s.stmts k (omega linear) (omega linear) (omega linear),
      )

  expr_by : (n : ℕ) → n ≡ rows t → (r : ℕ) → r < rows t → expr t n r ≡ expr_node (expr_at t) (formula_at t) (row t r)
  unfolding expr
  expr_by zero e r h = absurd (omega linear)
  expr_by (suc n) e r h =
      let a = to_at n e r h in
      expr_same t (expr t n) (expr_at t) (formula t n) (formula_at t) r a.0 a.1 (row t r) (ok.ordered r h)

  formula_by : (n : ℕ) → n ≡ rows t → (r : ℕ) → r < rows t → formula t n r ≡ formula_node (expr_at t) (formula_at t) (row t r)
  unfolding expr
  formula_by zero e r h = absurd (omega linear)
  formula_by (suc n) e r h =
      let a = to_at n e r h in
      formula_same t (expr t n) (expr_at t) (formula t n) (formula_at t) r a.0 a.1 (row t r) (ok.ordered r h)

  stmt_by : (n : ℕ) → n ≡ rows t → (r : ℕ) → r < rows t
      → stmt t n r ≡ stmt_node (expr_at t) (formula_at t) (stmt_at t) (row t) r (row t r)
  unfolding stmt
  stmt_by zero e r h = absurd (omega linear)
  stmt_by (suc n) e r h =
      let a = to_at n e r h in
      stmt_same t (expr t n) (expr_at t) (formula t n) (formula_at t) r a.0 a.1 (stmt t n) (stmt_at t) a.2
      (λ i l. ok.ordered i (omega linear)) (row t r) (ok.ordered r h)

  pub expr_is : (r : ℕ) {w : Row} → r < rows t → row t r ≡ w → expr_at t r ≡ expr_node (expr_at t) (formula_at t) w
  unfolding expr_at
  expr_is r h e = expr_by (rows t) refl r h ∙ ap (expr_node (expr_at t) (formula_at t)) e

  pub formula_is : (r : ℕ) {w : Row} → r < rows t → row t r ≡ w → formula_at t r ≡ formula_node (expr_at t) (formula_at t) w
  unfolding formula_at
  formula_is r h e = formula_by (rows t) refl r h ∙ ap (formula_node (expr_at t) (formula_at t)) e

  pub stmt_is : (r : ℕ) {w : Row} → r < rows t → row t r ≡ w
      → stmt_at t r ≡ stmt_node (expr_at t) (formula_at t) (stmt_at t) (row t) r w
  unfolding stmt_at
  stmt_is r h e = stmt_by (rows t) refl r h ∙ ap (stmt_node (expr_at t) (formula_at t) (stmt_at t) (row t) r) e

pub tree_is : (t : List ℤ) {w : Row} → row t (rows t - 1) ≡ w
    → tree t ≡ script_node (expr_at t) (formula_at t) (stmt_at t) (rows t - 1) w
unfolding tree
tree_is t e = ap (script_node (expr_at t) (formula_at t) (stmt_at t) (rows t - 1)) e
