-- The conditions of an accepted table have their numbers in range: `in_range_conditions`.
-- Argument: by induction on the row, every variable and mark of a tree comes from a row whose fields are in range, and a
-- loop's number is that of its row. Assumes nothing.
use Rattle.std.specs.Prelude.{ℕ, ◌-◌, ◌<◌, ◌≡◌, refl, List, T, ℤ}
use Rattle.std.proofs.Common.{arith as linear}
use Rattle.script.specs.declared.ExpressionRow.TheVariants.{Constant, Variable, Arithmetic, Negate, Mark, Choose}
use Rattle.script.specs.declared.FormulaRow.TheVariants.{True, False, Comparison, Not, Junction}
use Rattle.script.specs.declared.StatementRow.TheVariants.{Skip, Assign, Sequence, If, While, Assert}
use Rattle.script.specs.declared.Row.{Row}
use Rattle.script.specs.Syntax.{Formula, Stmt}
use Rattle.script.specs.Rows.{row, rows, fields, parts, variables}
use Rattle.script.specs.Trees.{no_tree, expr_node, formula_node, loop_node, stmt_node, script_node, expr_at, formula_at, stmt_at, tree}
use Rattle.script.specs.Refusals.{accepted, all_below, in_range, verdict}
use Rattle.script.specs.Conditions.{conditions}
use Rattle.script.specs.Words.{with_depth}
use Rattle.script.specs.WellFormed.{InRange, InRangeᶠ, AllInRange}
use Rattle.theorems.specs.Accepted.{Accepted, passed}
use Rattle.theorems.specs.RowTrees.{below, lower₁, lower₂, lower₃, expr_is, formula_is, stmt_is, tree_is}
use Rattle.theorems.specs.Induction.{by_lower}
use Rattle.theorems.specs.Ranges.{InRangeˢ, InRangeᵗ, conditions_in_range}

-- ---- the trees at the rows

module _ (t : List ℤ) (ok : Accepted t) where
  abbrev InRangeAt : ℕ → Type 0
  InRangeAt r = r < rows t → InRange (expr_at t r) × InRangeᶠ (formula_at t r)

  module _ (r : ℕ) (h : r < rows t) (lower : (k : ℕ) → k < r → InRangeAt k) where
    part : (k : ℕ) → k < r → InRange (expr_at t k) × InRangeᶠ (formula_at t k)
    part k l = lower k l (omega linear)

    node_in_range : (w : Row) → T (all_below t r (parts w)) → T (in_range t (fields w))
        → InRange (expr_node (expr_at t) (formula_at t) w) × InRangeᶠ (formula_node (expr_at t) (formula_at t) w)
    node_in_range (Row.Expression (Constant z)) l g = (tt, tt)
    node_in_range (Row.Expression (Variable v)) l g = (lower₁ v.0 variables g, tt)
    node_in_range (Row.Expression (Arithmetic o a b)) l g =
        let d = lower₂ a.0 b.0 r l in
        (((part a.0 d.0).0, (part b.0 d.1).0), tt)
    node_in_range (Row.Expression (Negate a)) l g = ((part a.0 (lower₁ a.0 r l)).0, tt)
    node_in_range (Row.Expression (Mark m)) l g =
        let d = lower₁ m.0 (rows t) g in
        let s = ok.short in
        (omega linear, tt)
    node_in_range (Row.Expression (Choose f a b)) l g =
        let d = lower₃ f.0 a.0 b.0 r l in
        (((part f.0 d.0).1, (part a.0 d.1.0).0, (part b.0 d.1.1).0), tt)
    node_in_range (Row.Formula True) l g = (tt, tt)
    node_in_range (Row.Formula False) l g = (tt, tt)
    node_in_range (Row.Formula (Comparison o a b)) l g =
        let d = lower₂ a.0 b.0 r l in
        (tt, ((part a.0 d.0).0, (part b.0 d.1).0))
    node_in_range (Row.Formula (Not f)) l g = (tt, (part f.0 (lower₁ f.0 r l)).1)
    node_in_range (Row.Formula (Junction o f f')) l g =
        let d = lower₂ f.0 f'.0 r l in
        (tt, ((part f.0 d.0).1, (part f'.0 d.1).1))
    node_in_range (Row.Statement w) l g = (tt, tt)
    node_in_range (Row.Note i v) l g = (tt, tt)
    node_in_range (Row.Script p s q) l g = (tt, tt)
    node_in_range Row.Unknown l g = (tt, tt)

  next_in_range : (r : ℕ) → ((k : ℕ) → k < r → InRangeAt k) → InRangeAt r
  next_in_range r lower h =
      let s = node_in_range r h lower (row t r) (ok.ordered r h) (ok.ranged r h) in
      (rw (expr_is t ok r h refl) s.0, rw (formula_is t ok r h refl) s.1)

  tree_in_range : (r : ℕ) → InRangeAt r
  tree_in_range r = by_lower InRangeAt next_in_range r

  loop_in_range : (r i : ℕ) (g : Formula) (x : Stmt) → r < rows t → i < rows t → InRangeᶠ g → InRangeˢ x → (w : Row) → row t i ≡ w
      → InRangeˢ (loop_node (expr_at t) (formula_at t) r g w x)
  loop_in_range r i g x h k a b (Row.Note f v) e =
      let s = ok.short in
      let d = lower₂ f.0 v.0 i (below t ok i k e) in
      (omega linear, a, (tree_in_range f.0 (omega linear)).1, (tree_in_range v.0 (omega linear)).0, b)
  loop_in_range r i g x h k a b (Row.Expression w) e = tt
  loop_in_range r i g x h k a b (Row.Formula w) e = tt
  loop_in_range r i g x h k a b (Row.Statement w) e = tt
  loop_in_range r i g x h k a b (Row.Script p s q) e = tt
  loop_in_range r i g x h k a b Row.Unknown e = tt

  stmt_node_in_range : (r : ℕ) → r < rows t → ((k : ℕ) → k < r → InRangeˢ (stmt_at t k)) → (w : Row) → T (all_below t r (parts w))
      → InRangeˢ (stmt_node (expr_at t) (formula_at t) (stmt_at t) (row t) r w)
  stmt_node_in_range r h part (Row.Statement Skip) l = tt
  stmt_node_in_range r h part (Row.Statement (Assign v e)) l =
      let d = lower₁ e.0 r l in
      (tree_in_range e.0 (omega linear)).0
  stmt_node_in_range r h part (Row.Statement (Sequence a b)) l =
      let d = lower₂ a.0 b.0 r l in
      (part a.0 d.0, part b.0 d.1)
  stmt_node_in_range r h part (Row.Statement (If b x y)) l =
      let d = lower₃ b.0 x.0 y.0 r l in
      ((tree_in_range b.0 (omega linear)).1, part x.0 d.1.0, part y.0 d.1.1)
  stmt_node_in_range r h part (Row.Statement (While b i x)) l =
      let d = lower₃ b.0 i.0 x.0 r l in
      let guard = (tree_in_range b.0 (omega linear)).1 in
      loop_in_range r i.0 (formula_at t b.0) (stmt_at t x.0) h (omega linear) guard (part x.0 d.1.1) (row t i.0) refl
  stmt_node_in_range r h part (Row.Statement (Assert f)) l =
      let d = lower₁ f.0 r l in
      (tree_in_range f.0 (omega linear)).1
  stmt_node_in_range r h part (Row.Expression w) l = tt
  stmt_node_in_range r h part (Row.Formula w) l = tt
  stmt_node_in_range r h part (Row.Note i v) l = tt
  stmt_node_in_range r h part (Row.Script p s q) l = tt
  stmt_node_in_range r h part Row.Unknown l = tt

  stmt_in_range : (r : ℕ) → r < rows t → InRangeˢ (stmt_at t r)
  stmt_in_range r =
      by_lower (λ k. k < rows t → InRangeˢ (stmt_at t k))
      (λ k lower h. rw (stmt_is t ok k h refl) (stmt_node_in_range k h (λ i l. lower i l (omega linear)) (row t k) (ok.ordered k h)))
      r

  -- ---- the script row

  none : InRangeᵗ (no_tree (rows t - 1))
  none =
      let f = ok.filled in
      let m = ok.short in
      record { pre = tt; body = tt; post = tt; row = omega linear }

  script_in_range : (w : Row) → row t (rows t - 1) ≡ w → InRangeᵗ (script_node (expr_at t) (formula_at t) (stmt_at t) (rows t - 1) w)
  script_in_range (Row.Script p s q) e =
      let f = ok.filled in
      let m = ok.short in
      let d = lower₃ p.0 s.0 q.0 (rows t - 1) (below t ok (rows t - 1) (omega linear) e) in
      record {
        pre = (tree_in_range p.0 (omega linear)).1;
        body = stmt_in_range s.0 (omega linear);
        post = (tree_in_range q.0 (omega linear)).1;
        row = omega linear;
      }
  script_in_range (Row.Expression w) e = none
  script_in_range (Row.Formula w) e = none
  script_in_range (Row.Statement w) e = none
  script_in_range (Row.Note i v) e = none
  script_in_range Row.Unknown e = none

pub in_range_conditions : (t : List ℤ) → verdict t ≡ accepted → AllInRange with_depth (conditions (tree t))
in_range_conditions t h =
    conditions_in_range (tree t) (rw (tree_is t refl) (script_in_range t (passed t h) (row t (rows t - 1)) refl)) (passed t h).shallow
