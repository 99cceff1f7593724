-- One row of the script and its copy, from their parts: where the parts of a row and of its copy are the same without
-- names, so are the two (`expr_case`, `formula_case`, `stmt_case`, `loop_case`). New row k is a copy of row r: its
-- links go to pl, its mark is renamed by ρ; `is` are the loops around r, `js` their copies. By cases on rows. Assumes
-- nothing.
use Rattle.std.specs.Prelude.{ℕ, ◌≡◌, List, [], ◌∷◌, get_or}
use Rattle.std.proofs.Math.Path.{refl}
use Rattle.script.specs.declared.RowNumber.{RowNumber}
use Rattle.script.specs.declared.ExpressionRow.TheVariants.{Constant, Variable, Arithmetic, Negate, Mark, Choose}
use Rattle.script.specs.declared.FormulaRow.TheVariants.{True, False, Comparison, Not, Junction}
use Rattle.script.specs.declared.StatementRow.TheVariants.{Skip, Assign, Sequence, If, While, Assert}
use Rattle.script.specs.declared.Row.{Row}
use Rattle.script.specs.Syntax.{Expr, Formula, Stmt}
use Rattle.script.specs.Rows.{parts}
use Rattle.script.specs.Trees.{expr_node, formula_node, loop_node, stmt_node, script_node}
use Rattle.theorems.specs.Links.{Link, here, there}
use Rattle.theorems.specs.Standing.{inside_at}
use Rattle.mending.specs.Renew.{renew}
use Rattle.mending.specs.Nameless.{index, nameless, namelessᶠ, namelessˢ, nameless_tree}

module _ (E E' : ℕ → Expr) (F F' : ℕ → Formula) (S S' : ℕ → Stmt) (N N' : ℕ → Row) (k r : ℕ) (is js pl : List ℕ) (ρ : ℕ → ℕ) where
  abbrev Exprs : Row → Type 0
  Exprs w =
      (i p : ℕ) → Link p i (parts w) → nameless (inside_at k w i js) (E' (get_or pl i 0)) ≡ nameless (inside_at r w i is)
      (E p)

  abbrev Formulas : Row → Type 0
  Formulas w =
      (i p : ℕ) → Link p i (parts w) → namelessᶠ (inside_at k w i js) (F' (get_or pl i 0)) ≡ namelessᶠ
      (inside_at r w i is) (F p)

  abbrev Stmts : Row → Type 0
  Stmts w =
      (i p : ℕ) → Link p i (parts w) → namelessˢ (inside_at k w i js) (S' (get_or pl i 0)) ≡ namelessˢ
      (inside_at r w i is) (S p)

  -- a loop with its note at link number 1
  abbrev Notes : Row → Type 0
  Notes w =
      (p : ℕ) → Link p 1 (parts w) → (b b' : Formula) (x x' : Stmt)
      → namelessᶠ (inside_at k w 1 js) b' ≡ namelessᶠ (inside_at r w 1 is) b
      → namelessˢ (k ∷ inside_at k w 1 js) x' ≡ namelessˢ (r ∷ inside_at r w 1 is) x
      → namelessˢ (inside_at k w 1 js) (loop_node E' F' k b' (N' (get_or pl 1 0)) x') ≡
      namelessˢ (inside_at r w 1 is) (loop_node E F r b (N p) x)

  pub expr_case : (w : Row) → Exprs w → Formulas w
      → ((m : RowNumber) → w ≡ Row.Expression (Mark m) → index (ρ m.0) js ≡ index m.0 is)
      → nameless js (expr_node E' F' (renew ρ pl w)) ≡ nameless is (expr_node E F w)
  unfolding nameless namelessᶠ
  expr_case (Row.Expression (Constant z)) es fs m = refl
  expr_case (Row.Expression (Variable v)) es fs m = refl
  expr_case (Row.Expression (Arithmetic o a b)) es fs m = rw (es 0 a.0 (here refl), es 1 b.0 (there (here refl)))
  expr_case (Row.Expression (Negate a)) es fs m = rw (es 0 a.0 (here refl))
  expr_case (Row.Expression (Mark x)) es fs m = rw (m x refl)
  expr_case (Row.Expression (Choose f a b)) es fs m =
      rw (fs 0 f.0 (here refl), es 1 a.0 (there (here refl)), es 2 b.0 (there (there (here refl))))
  expr_case (Row.Formula True) es fs m = refl
  expr_case (Row.Formula False) es fs m = refl
  expr_case (Row.Formula (Comparison o a b)) es fs m = refl
  expr_case (Row.Formula (Not f)) es fs m = refl
  expr_case (Row.Formula (Junction o f g)) es fs m = refl
  expr_case (Row.Statement Skip) es fs m = refl
  expr_case (Row.Statement (Assign v e)) es fs m = refl
  expr_case (Row.Statement (Sequence a b)) es fs m = refl
  expr_case (Row.Statement (If b x y)) es fs m = refl
  expr_case (Row.Statement (While b n x)) es fs m = refl
  expr_case (Row.Statement (Assert f)) es fs m = refl
  expr_case (Row.Note i v) es fs m = refl
  expr_case (Row.Script p s q) es fs m = refl
  expr_case Row.Unknown es fs m = refl

  pub formula_case : (w : Row) → Exprs w → Formulas w
      → namelessᶠ js (formula_node E' F' (renew ρ pl w)) ≡ namelessᶠ is (formula_node E F w)
  unfolding nameless namelessᶠ
  formula_case (Row.Formula True) es fs = refl
  formula_case (Row.Formula False) es fs = refl
  formula_case (Row.Formula (Comparison o a b)) es fs = rw (es 0 a.0 (here refl), es 1 b.0 (there (here refl)))
  formula_case (Row.Formula (Not f)) es fs = rw (fs 0 f.0 (here refl))
  formula_case (Row.Formula (Junction o f g)) es fs = rw (fs 0 f.0 (here refl), fs 1 g.0 (there (here refl)))
  formula_case (Row.Expression (Constant z)) es fs = refl
  formula_case (Row.Expression (Variable v)) es fs = refl
  formula_case (Row.Expression (Arithmetic o a b)) es fs = refl
  formula_case (Row.Expression (Negate a)) es fs = refl
  formula_case (Row.Expression (Mark x)) es fs = refl
  formula_case (Row.Expression (Choose f a b)) es fs = refl
  formula_case (Row.Statement Skip) es fs = refl
  formula_case (Row.Statement (Assign v e)) es fs = refl
  formula_case (Row.Statement (Sequence a b)) es fs = refl
  formula_case (Row.Statement (If b x y)) es fs = refl
  formula_case (Row.Statement (While b n x)) es fs = refl
  formula_case (Row.Statement (Assert f)) es fs = refl
  formula_case (Row.Note i v) es fs = refl
  formula_case (Row.Script p s q) es fs = refl
  formula_case Row.Unknown es fs = refl

  pub stmt_case : (w : Row) → Exprs w → Formulas w → Stmts w → Notes w
      → namelessˢ js (stmt_node E' F' S' N' k (renew ρ pl w)) ≡ namelessˢ is (stmt_node E F S N r w)
  unfolding namelessˢ
  stmt_case (Row.Statement Skip) es fs ss ns = refl
  stmt_case (Row.Statement (Assign v e)) es fs ss ns = rw (es 0 e.0 (here refl))
  stmt_case (Row.Statement (Sequence a b)) es fs ss ns = rw (ss 0 a.0 (here refl), ss 1 b.0 (there (here refl)))
  stmt_case (Row.Statement (If b x y)) es fs ss ns =
      rw (fs 0 b.0 (here refl), ss 1 x.0 (there (here refl)), ss 2 y.0 (there (there (here refl))))
  stmt_case (Row.Statement (While b n x)) es fs ss ns =
      ns n.0 (there (here refl)) (F b.0) (F' (get_or pl 0 0)) (S x.0) (S' (get_or pl 2 0))
      (fs 0 b.0 (here refl))
      (ss 2 x.0 (there (there (here refl))))
  stmt_case (Row.Statement (Assert f)) es fs ss ns = rw (fs 0 f.0 (here refl))
  stmt_case (Row.Expression (Constant z)) es fs ss ns = refl
  stmt_case (Row.Expression (Variable v)) es fs ss ns = refl
  stmt_case (Row.Expression (Arithmetic o a b)) es fs ss ns = refl
  stmt_case (Row.Expression (Negate a)) es fs ss ns = refl
  stmt_case (Row.Expression (Mark x)) es fs ss ns = refl
  stmt_case (Row.Expression (Choose f a b)) es fs ss ns = refl
  stmt_case (Row.Formula True) es fs ss ns = refl
  stmt_case (Row.Formula False) es fs ss ns = refl
  stmt_case (Row.Formula (Comparison o a b)) es fs ss ns = refl
  stmt_case (Row.Formula (Not f)) es fs ss ns = refl
  stmt_case (Row.Formula (Junction o f g)) es fs ss ns = refl
  stmt_case (Row.Note i v) es fs ss ns = refl
  stmt_case (Row.Script p s q) es fs ss ns = refl
  stmt_case Row.Unknown es fs ss ns = refl

  -- a loop at q' that is a copy of the one at q: its note stands at k, a copy of row r, which is v
  pub loop_case : (v : Row) (q q' : ℕ) (b b' : Formula) (x x' : Stmt) → Exprs v → Formulas v
      → namelessᶠ js b' ≡ namelessᶠ is b
      → namelessˢ (q' ∷ js) x' ≡ namelessˢ (q ∷ is) x
      → namelessˢ js (loop_node E' F' q' b' (renew ρ pl v) x') ≡ namelessˢ is (loop_node E F q b v x)
  unfolding namelessˢ
  loop_case (Row.Note i v) q q' b b' x x' es fs hb hx =
      rw (hb, hx, fs 0 i.0 (here refl), es 1 v.0 (there (here refl)))
  loop_case (Row.Expression (Constant z)) q q' b b' x x' es fs hb hx = refl
  loop_case (Row.Expression (Variable v)) q q' b b' x x' es fs hb hx = refl
  loop_case (Row.Expression (Arithmetic o a c)) q q' b b' x x' es fs hb hx = refl
  loop_case (Row.Expression (Negate a)) q q' b b' x x' es fs hb hx = refl
  loop_case (Row.Expression (Mark m)) q q' b b' x x' es fs hb hx = refl
  loop_case (Row.Expression (Choose f a c)) q q' b b' x x' es fs hb hx = refl
  loop_case (Row.Formula True) q q' b b' x x' es fs hb hx = refl
  loop_case (Row.Formula False) q q' b b' x x' es fs hb hx = refl
  loop_case (Row.Formula (Comparison o a c)) q q' b b' x x' es fs hb hx = refl
  loop_case (Row.Formula (Not f)) q q' b b' x x' es fs hb hx = refl
  loop_case (Row.Formula (Junction o f g)) q q' b b' x x' es fs hb hx = refl
  loop_case (Row.Statement Skip) q q' b b' x x' es fs hb hx = refl
  loop_case (Row.Statement (Assign v e)) q q' b b' x x' es fs hb hx = refl
  loop_case (Row.Statement (Sequence a c)) q q' b b' x x' es fs hb hx = refl
  loop_case (Row.Statement (If c y z)) q q' b b' x x' es fs hb hx = refl
  loop_case (Row.Statement (While c n y)) q q' b b' x x' es fs hb hx = refl
  loop_case (Row.Statement (Assert f)) q q' b b' x x' es fs hb hx = refl
  loop_case (Row.Script p s z) q q' b b' x x' es fs hb hx = refl
  loop_case Row.Unknown q q' b b' x x' es fs hb hx = refl

-- the script
pub script_case : (E E' : ℕ → Expr) (F F' : ℕ → Formula) (S S' : ℕ → Stmt) (k r : ℕ) (pl : List ℕ) (ρ : ℕ → ℕ) (w : Row)
    → ((i p : ℕ) → Link p i (parts w) → namelessᶠ (inside_at k w i []) (F' (get_or pl i 0)) ≡ namelessᶠ (inside_at r w i []) (F p))
    → ((i p : ℕ) → Link p i (parts w) → namelessˢ (inside_at k w i []) (S' (get_or pl i 0)) ≡ namelessˢ (inside_at r w i []) (S p))
    → nameless_tree (script_node E' F' S' k (renew ρ pl w)) ≡ nameless_tree (script_node E F S r w)
unfolding nameless_tree
script_case E E' F F' S S' k r pl ρ (Row.Script p s q) fs ss =
    rw (fs 0 p.0 (here refl), ss 1 s.0 (there (here refl)), fs 2 q.0 (there (there (here refl))))
script_case E E' F F' S S' k r pl ρ (Row.Expression (Constant z)) fs ss = refl
script_case E E' F F' S S' k r pl ρ (Row.Expression (Variable v)) fs ss = refl
script_case E E' F F' S S' k r pl ρ (Row.Expression (Arithmetic o a c)) fs ss = refl
script_case E E' F F' S S' k r pl ρ (Row.Expression (Negate a)) fs ss = refl
script_case E E' F F' S S' k r pl ρ (Row.Expression (Mark m)) fs ss = refl
script_case E E' F F' S S' k r pl ρ (Row.Expression (Choose f a c)) fs ss = refl
script_case E E' F F' S S' k r pl ρ (Row.Formula True) fs ss = refl
script_case E E' F F' S S' k r pl ρ (Row.Formula False) fs ss = refl
script_case E E' F F' S S' k r pl ρ (Row.Formula (Comparison o a c)) fs ss = refl
script_case E E' F F' S S' k r pl ρ (Row.Formula (Not f)) fs ss = refl
script_case E E' F F' S S' k r pl ρ (Row.Formula (Junction o f g)) fs ss = refl
script_case E E' F F' S S' k r pl ρ (Row.Statement Skip) fs ss = refl
script_case E E' F F' S S' k r pl ρ (Row.Statement (Assign v e)) fs ss = refl
script_case E E' F F' S S' k r pl ρ (Row.Statement (Sequence a c)) fs ss = refl
script_case E E' F F' S S' k r pl ρ (Row.Statement (If c y z)) fs ss = refl
script_case E E' F F' S S' k r pl ρ (Row.Statement (While c n y)) fs ss = refl
script_case E E' F F' S S' k r pl ρ (Row.Statement (Assert f)) fs ss = refl
script_case E E' F F' S S' k r pl ρ (Row.Note i v) fs ss = refl
script_case E E' F F' S S' k r pl ρ Row.Unknown fs ss = refl
