-- Where no row of the table is among the misplaced names at and below a row (`Clean`), no mark stands there in code, and
-- elsewhere only the marks of the loops around (`free`).
-- Argument: by induction on the row; a mark that may not stand would put its own row among those names. Assumes nothing.
use Prim.Native.Nat.{ℕ, zero, suc, ◌≤◌, ◌<◌}
use Rattle.std.specs.Prelude.{refl, Bool, true, false, cond, not, ◌||◌, List, [], ◌∷◌, ◌++◌, T, eqb, ℤ}
use Rattle.std.proofs.Common.{sym, subst, arith as linear, eq-eqb, T_not, eqb→eq}
use Rattle.std.proofs.Math.Dec.{not_T}
use Rattle.script.specs.declared.ExpressionRow.TheVariants.{Constant, Variable, Arithmetic, Negate, Mark, Choose}
use Rattle.script.specs.declared.FormulaRow.TheVariants.{True, False, Comparison, Not, Junction}
use Rattle.script.specs.declared.Row.{Row}
use Rattle.script.specs.Rows.{row, rows, parts}
use Rattle.script.specs.Trees.{expr_node, formula_node, expr_at, formula_at}
use Rattle.script.specs.Refusals.{member, all_below, misread_node, misread}
use Rattle.theorems.specs.Scoping.{MarkFree, MarkFreeᶠ}
use Rattle.theorems.specs.Accepted.{Accepted}
use Rattle.theorems.specs.RowTrees.{lower₁, lower₂, lower₃, expr_is, formula_is}
use Rattle.theorems.specs.Induction.{by_lower}
use Rattle.theorems.specs.Members.{not_in_both}

-- ---- lists that name no row of the table

module _ (t : List ℤ) where
  abbrev pub Clean : List ℕ → Type 0
  Clean xs = (k : ℕ) → k < rows t → T (not (member k xs))

  pub clean₂ : (xs ys : List ℕ) → Clean (xs ++ ys) → Clean xs × Clean ys
  clean₂ xs ys c = (λ k h. (not_in_both k xs ys (c k h)).0, λ k h. (not_in_both k xs ys (c k h)).1)

  pub clean₃ : (xs ys zs : List ℕ) → Clean (xs ++ (ys ++ zs)) → Clean xs × Clean ys × Clean zs
  clean₃ xs ys zs c =
      let s = clean₂ xs (ys ++ zs) c in
      let r = clean₂ ys zs s.1 in
      (s.0, r.0, r.1)

  clean_row : (r : ℕ) (b : Bool) → r < rows t → Clean (cond b (r ∷ []) []) → T (not b)
  clean_row r true h c = rw (eq-eqb r r refl) at (c r h)
  clean_row r false h c = tt

-- ---- in code no mark stands, elsewhere only those of the loops around

-- a mark k that stands is not the mark m that may not
other_mark : (code : Bool) (inside : List ℕ) (k m : ℕ) → T (not (code || not (member k inside))) → T (code || not (member m inside))
    → T (not (eqb k m))
other_mark code inside k m h out =
    not_T (eqb k m)
    (λ e. T_not (code || not (member k inside)) h (subst (λ (x : ℕ). T (code || not (member x inside))) (sym (eqb→eq k m e)) out))

module _ (t : List ℤ) (ok : Accepted t) (code : Bool) (inside : List ℕ) (m : ℕ) (out : T (code || not (member m inside))) where
  -- the mark m, which may not stand at row r, does not stand at or below it
  abbrev Free : ℕ → Type 0
  Free r = (n : ℕ) → r < n → r < rows t → Clean t (misread t n code inside r) → MarkFree m (expr_at t r) × MarkFreeᶠ m (formula_at t r)

  module _ (r n : ℕ) (h : r ≤ n) (g : r < rows t) (lower : (k : ℕ) → k < r → Free k) where
    part : (k : ℕ) → k < r → Clean t (misread t n code inside k) → MarkFree m (expr_at t k) × MarkFreeᶠ m (formula_at t k)
    part k l c = lower k l n (omega linear) (omega linear) c

    node_free : (w : Row) → T (all_below t r (parts w)) → Clean t (misread_node t (misread t n) code inside r w)
        → MarkFree m (expr_node (expr_at t) (formula_at t) w) × MarkFreeᶠ m (formula_node (expr_at t) (formula_at t) w)
    node_free (Row.Expression (Constant z)) l c = (tt, tt)
    node_free (Row.Expression (Variable v)) l c = (tt, tt)
    node_free (Row.Expression (Arithmetic o a b)) l c =
        let d = lower₂ a.0 b.0 r l in
        let s = clean₂ t (misread t n code inside a.0) (misread t n code inside b.0) c in
        (((part a.0 d.0 s.0).0, (part b.0 d.1 s.1).0), tt)
    node_free (Row.Expression (Negate a)) l c = ((part a.0 (lower₁ a.0 r l) c).0, tt)
    node_free (Row.Expression (Mark k)) l c =
        let d = clean_row t r (code || not (member k.0 inside)) g c in
        (other_mark code inside k.0 m d out, tt)
    node_free (Row.Expression (Choose f a b)) l c =
        let d = lower₃ f.0 a.0 b.0 r l in
        let s = clean₃ t (misread t n code inside f.0) (misread t n code inside a.0) (misread t n code inside b.0) c in
        (((part f.0 d.0 s.0).1, (part a.0 d.1.0 s.1).0, (part b.0 d.1.1 s.2).0), tt)
    node_free (Row.Formula True) l c = (tt, tt)
    node_free (Row.Formula False) l c = (tt, tt)
    node_free (Row.Formula (Comparison o a b)) l c =
        let d = lower₂ a.0 b.0 r l in
        let s = clean₂ t (misread t n code inside a.0) (misread t n code inside b.0) c in
        (tt, ((part a.0 d.0 s.0).0, (part b.0 d.1 s.1).0))
    node_free (Row.Formula (Not f)) l c = (tt, (part f.0 (lower₁ f.0 r l) c).1)
    node_free (Row.Formula (Junction o f f')) l c =
        let d = lower₂ f.0 f'.0 r l in
        let s = clean₂ t (misread t n code inside f.0) (misread t n code inside f'.0) c in
        (tt, ((part f.0 d.0 s.0).1, (part f'.0 d.1 s.1).1))
    node_free (Row.Statement w) l c = (tt, tt)
    node_free (Row.Note i v) l c = (tt, tt)
    node_free (Row.Script p s q) l c = (tt, tt)
    node_free Row.Unknown l c = (tt, tt)

  next_free : (r : ℕ) → ((k : ℕ) → k < r → Free k) → Free r
  unfolding misread
  next_free r lower zero h g c = absurd (omega linear)
  next_free r lower (suc n) h g c =
      let s = node_free r n (omega linear) g lower (row t r) (ok.ordered r g) c in
      (rw (expr_is t ok r g refl) s.0, rw (formula_is t ok r g refl) s.1)

  pub free : (r : ℕ) → Free r
  free r = by_lower Free next_free r
