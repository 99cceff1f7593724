-- The script of a table where links fall and no mark has a use outside is in scope (`scoped_tree`), and so are those of
-- old and new tables. Row by row, by induction on the bound of `Trees`; `InScope` has what the rows have. Assumes
-- nothing.
use Prim.Native.Nat.{ℕ, zero, suc, ◌-◌, ◌<◌}
use Rattle.std.specs.Prelude.{◌≡◌, Bool, true, ℤ}
use Rattle.std.proofs.Math.Path.{refl, subst}
use Rattle.std.proofs.Common.{sym}
use mathlib.Core.List.{List, [], ◌∷◌}
use Rattle.std.proofs.Math.Bool.{false}
use Rattle.script.specs.declared.RowNumber.{RowNumber}
use Rattle.script.specs.declared.ExpressionRow.TheVariants.{Constant, Variable, Arithmetic, Negate, Mark, Choose}
use Rattle.script.specs.declared.FormulaRow.TheVariants.{True, False, Comparison, Not, Junction}
use Rattle.script.specs.declared.StatementRow.TheVariants.{Skip, Assign, Sequence, If, While, Assert}
use Rattle.script.specs.declared.Row.{Row}
use Rattle.script.specs.Syntax.{Expr, Formula, Stmt}
use Rattle.script.specs.Rows.{parts, rows, row}
use Rattle.script.specs.Refusals.{member}
use Rattle.script.specs.Trees.{expr_node, formula_node, loop_node, stmt_node, script_node, expr, formula, stmt, expr_at, formula_at, stmt_at, tree}
use Rattle.theorems.specs.Links.{Link, here, there}
use Rattle.theorems.specs.Standing.{inside_at, code_at, Stands, script, link}
use Rattle.mending.specs.Falling.{Falls}
use Rattle.mending.specs.Escape.{Escaping}
use Rattle.mending.specs.InScope.{In, Inᶠ, Scoped, ScopedTree, mark_within, not_own}

-- ---- one row, from its parts

module _ (E : ℕ → Expr) (F : ℕ → Formula) (S : ℕ → Stmt) (N : ℕ → Row) (r : ℕ) (is : List ℕ) where
  abbrev Exprs : Row → Type 0
  Exprs w = (i p : ℕ) → Link p i (parts w) → In (inside_at r w i is) (E p)

  abbrev Formulas : Row → Type 0
  Formulas w = (i p : ℕ) → Link p i (parts w) → Inᶠ (inside_at r w i is) (F p)

  abbrev Stmts : Row → Type 0
  Stmts w = (i p : ℕ) → Link p i (parts w) → Scoped (inside_at r w i is) (S p)

  -- a loop with its note at link number 1
  abbrev Notes : Row → Type 0
  Notes w =
      (p : ℕ) → Link p 1 (parts w) → (b : Formula) (x : Stmt) → Inᶠ (inside_at r w 1 is) b
      → Scoped (r ∷ inside_at r w 1 is) x
      → Scoped (inside_at r w 1 is) (loop_node E F r b (N p) x)

  expr_case : (w : Row) → Exprs w → Formulas w
      → ((m : RowNumber) → w ≡ Row.Expression (Mark m) → member m.0 is ≡ true) → In is (expr_node E F w)
  expr_case (Row.Expression (Constant z)) es fs ms = tt
  expr_case (Row.Expression (Variable v)) es fs ms = tt
  expr_case (Row.Expression (Arithmetic o a b)) es fs ms = (es 0 a.0 (here refl), es 1 b.0 (there (here refl)))
  expr_case (Row.Expression (Negate a)) es fs ms = es 0 a.0 (here refl)
  expr_case (Row.Expression (Mark m)) es fs ms = ms m refl
  expr_case (Row.Expression (Choose f a b)) es fs ms =
      (fs 0 f.0 (here refl), es 1 a.0 (there (here refl)), es 2 b.0 (there (there (here refl))))
  expr_case (Row.Formula x) es fs ms = tt
  expr_case (Row.Statement x) es fs ms = tt
  expr_case (Row.Note i v) es fs ms = tt
  expr_case (Row.Script p s q) es fs ms = tt
  expr_case Row.Unknown es fs ms = tt

  formula_case : (w : Row) → Exprs w → Formulas w → Inᶠ is (formula_node E F w)
  formula_case (Row.Formula True) es fs = tt
  formula_case (Row.Formula False) es fs = tt
  formula_case (Row.Formula (Comparison o a b)) es fs = (es 0 a.0 (here refl), es 1 b.0 (there (here refl)))
  formula_case (Row.Formula (Not f)) es fs = fs 0 f.0 (here refl)
  formula_case (Row.Formula (Junction o f g)) es fs = (fs 0 f.0 (here refl), fs 1 g.0 (there (here refl)))
  formula_case (Row.Expression x) es fs = tt
  formula_case (Row.Statement x) es fs = tt
  formula_case (Row.Note i v) es fs = tt
  formula_case (Row.Script p s q) es fs = tt
  formula_case Row.Unknown es fs = tt

  stmt_case : (w : Row) → Exprs w → Formulas w → Stmts w → Notes w → Scoped is (stmt_node E F S N r w)
  stmt_case (Row.Statement Skip) es fs ss ns = tt
  stmt_case (Row.Statement (Assign v e)) es fs ss ns = es 0 e.0 (here refl)
  stmt_case (Row.Statement (Sequence a b)) es fs ss ns = (ss 0 a.0 (here refl), ss 1 b.0 (there (here refl)))
  stmt_case (Row.Statement (If b x y)) es fs ss ns =
      (fs 0 b.0 (here refl), ss 1 x.0 (there (here refl)), ss 2 y.0 (there (there (here refl))))
  stmt_case (Row.Statement (While b n x)) es fs ss ns =
      ns n.0 (there (here refl)) (F b.0) (S x.0) (fs 0 b.0 (here refl))
      (ss 2 x.0 (there (there (here refl))))
  stmt_case (Row.Statement (Assert f)) es fs ss ns = fs 0 f.0 (here refl)
  stmt_case (Row.Expression x) es fs ss ns = tt
  stmt_case (Row.Formula x) es fs ss ns = tt
  stmt_case (Row.Note i v) es fs ss ns = tt
  stmt_case (Row.Script p s q) es fs ss ns = tt
  stmt_case Row.Unknown es fs ss ns = tt

  -- the loop at q, whose note is v
  loop_case : (v : Row) (q : ℕ) (b : Formula) (x : Stmt) → Exprs v → Formulas v → member q is ≡ false → Inᶠ is b
      → Scoped (q ∷ is) x
      → Scoped is (loop_node E F q b v x)
  loop_case (Row.Note i v) q b x es fs new hb hx =
      (hb, fs 0 i.0 (here refl), es 1 v.0 (there (here refl)), new, hx)
  loop_case (Row.Expression y) q b x es fs new hb hx = tt
  loop_case (Row.Formula y) q b x es fs new hb hx = tt
  loop_case (Row.Statement y) q b x es fs new hb hx = tt
  loop_case (Row.Script p s z) q b x es fs new hb hx = tt
  loop_case Row.Unknown q b x es fs new hb hx = tt

-- ---- all rows

module _ (t : List ℤ) (falls : Falls t) (filled : 0 < rows t) (inside : (k : ℕ) → k < rows t → ¬ Escaping t k) where
  mutual
    unfolding expr formula

    expr_in : (n : ℕ) {r : ℕ} {code : Bool} {is : List ℕ} → Stands t r code is → In is (expr t n r)
    expr_in zero S = tt
    expr_in (suc n) {r} {code} {is} S =
        expr_case (λ x. expr t n x) (λ x. formula t n x) (stmt t n) (row t) r is (row t r)
        (λ i p l. expr_in n (link S l)) (λ i p l. formula_in n (link S l))
        (mark_within t falls filled inside S)

    formula_in : (n : ℕ) {r : ℕ} {code : Bool} {is : List ℕ} → Stands t r code is → Inᶠ is (formula t n r)
    formula_in zero S = tt
    formula_in (suc n) {r} {code} {is} S =
        formula_case (λ x. expr t n x) (λ x. formula t n x) (stmt t n) (row t) r is (row t r)
        (λ i p l. expr_in n (link S l)) (λ i p l. formula_in n (link S l))

  stmt_in : (n : ℕ) {r : ℕ} {code : Bool} {is : List ℕ} → Stands t r code is → Scoped is (stmt t n r)
  unfolding stmt
  stmt_in zero S = tt
  stmt_in (suc n) {r} {code} {is} S =
      stmt_case (expr t n) (formula t n) (stmt t n) (row t) r is (row t r) (λ i p l. expr_in n (link S l))
      (λ i p l. formula_in n (link S l))
      (λ i p l. stmt_in n (link S l))
      note
    where
      new : (w : Row) → member r (inside_at r w 1 is) ≡ false
      new (Row.Expression x) = not_own t falls filled inside S
      new (Row.Formula x) = not_own t falls filled inside S
      new (Row.Statement Skip) = not_own t falls filled inside S
      new (Row.Statement (Assign v x)) = not_own t falls filled inside S
      new (Row.Statement (Sequence x y)) = not_own t falls filled inside S
      new (Row.Statement (If b x y)) = not_own t falls filled inside S
      new (Row.Statement (While b x y)) = not_own t falls filled inside S
      new (Row.Statement (Assert f)) = not_own t falls filled inside S
      new (Row.Note i v) = not_own t falls filled inside S
      new (Row.Script p s q) = not_own t falls filled inside S
      new Row.Unknown = not_own t falls filled inside S

      note : (p : ℕ) → Link p 1 (parts (row t r)) → (b : Formula) (x : Stmt) → Inᶠ (inside_at r (row t r) 1 is) b
          → Scoped (r ∷ inside_at r (row t r) 1 is) x
          → Scoped (inside_at r (row t r) 1 is) (loop_node (expr t n) (formula t n) r b (row t p) x)
      note p l b x hb hx =
          loop_case (expr t n) (formula t n) (stmt t n) (row t) p (inside_at r (row t r) 1 is) (row t p) r b x
          (λ i q d. expr_in n (link (link S l) d)) (λ i q d. formula_in n (link (link S l) d)) (new (row t r)) hb hx

  pub scoped_tree : ScopedTree (tree t)
  unfolding tree formula_at stmt_at
  scoped_tree = go (row t (rows t - 1)) refl
    where
      go : (w : Row) → row t (rows t - 1) ≡ w
          → ScopedTree (script_node (expr_at t) (formula_at t) (stmt_at t) (rows t - 1) w)
      go (Row.Script p s q) e = record {
        pre = formula_in (rows t) (place 0 p.0 (here refl));
        body = stmt_in (rows t) (place 1 s.0 (there (here refl)));
        post = formula_in (rows t) (place 2 q.0 (there (there (here refl))));
      }
        where
          place : (i k : ℕ) → Link k i (parts (Row.Script p s q)) → Stands t k false []
          place i k l =
              subst (λ (w : Row). Stands t k (code_at w i false) (inside_at (rows t - 1) w i [])) e
              (link script (subst (λ (w : Row). Link k i (parts w)) (sym e) l))
      go (Row.Expression x) e = record { pre = tt; body = tt; post = tt }
      go (Row.Formula x) e = record { pre = tt; body = tt; post = tt }
      go (Row.Statement x) e = record { pre = tt; body = tt; post = tt }
      go (Row.Note i v) e = record { pre = tt; body = tt; post = tt }
      go Row.Unknown e = record { pre = tt; body = tt; post = tt }
