-- The tree of an accepted table is well-scoped: `scoped`.
-- Argument: by induction on the row (`Tidy`). A loop's guard is code, so it has no mark. Its note has only the marks of the
-- loops around, whose rows are higher (`Fresh`), so not its own. The loops at and below a row have its number or a lower
-- one. Assumes nothing.
use Prim.Native.Nat.{ℕ, zero, suc, ◌-◌, ◌≤◌, ◌<◌}
use Rattle.std.specs.Prelude.{◌≡◌, true, not, List, [], ◌∷◌, T, ℤ}
use Rattle.std.proofs.Math.Path.{refl}
use Rattle.std.proofs.Math.Bool.{false}
use Rattle.std.proofs.Common.{arith as linear}
use Rattle.script.specs.declared.StatementRow.TheVariants.{Skip, Assign, Sequence, If, While, Assert}
use Rattle.script.specs.declared.RowNumber.{RowNumber}
use Rattle.script.specs.declared.Row.{Row}
use Rattle.script.specs.Syntax.{Formula, Stmt}
use Rattle.script.specs.Rows.{row, rows, parts}
use Rattle.script.specs.Trees.{loop_node, stmt_node, script_node, expr_at, formula_at, stmt_at, tree}
use Rattle.script.specs.Refusals.{accepted, member, all_below, misread_node, misread, misreads, verdict}
use Rattle.theorems.specs.Scoping.{MarkFree, MarkFreeᶠ, LoopsBelow, WellScoped}
use Rattle.theorems.specs.Accepted.{Accepted, passed}
use Rattle.theorems.specs.RowTrees.{below, lower₂, lower₃, stmt_is, tree_is}
use Rattle.theorems.specs.Induction.{by_lower}
use Rattle.theorems.specs.Members.{not_in_cons}
use Rattle.theorems.specs.Marks.{Clean, clean₂, clean₃, free}

-- no loop around a row has its number or a lower one
abbrev Fresh : ℕ → List ℕ → Type 0
Fresh r inside = (k : ℕ) → k ≤ r → T (not (member k inside))

-- in the body of the loop at row r
fresh_inside : (x r : ℕ) (inside : List ℕ) → x < r → Fresh r inside → Fresh x (r ∷ inside)
fresh_inside x r inside h f k l = not_in_cons k r inside (λ e. omega linear) (f k (omega linear))

-- well-scoped, with no loop above row r
abbrev Tidy : ℕ → Stmt → Type 0
Tidy r s = WellScoped s × ((m : ℕ) → r < m → LoopsBelow m s)

module _ (t : List ℤ) (ok : Accepted t) where
  -- the note at row i does not read the mark m of a loop that is not around it
  note_free : (inside : List ℕ) (m n i : ℕ) {f v : RowNumber} → T (not (member m inside)) → i < n → i < rows t → row t i ≡ Row.Note f v
      → Clean t (misread t n false inside i) → MarkFreeᶠ m (formula_at t f.0) × MarkFree m (expr_at t v.0)
  unfolding misread
  note_free inside m zero i out h g e c = absurd (omega linear)
  note_free inside m (suc n) i {f} {v} out h g e c =
      let d = lower₂ f.0 v.0 i (below t ok i g e) in
      let s = clean₂ t (misread t n false inside f.0) (misread t n false inside v.0) (rw e at c) in
      let part = free t ok false inside m out in
      ((part f.0 n (omega linear) (omega linear) s.0).1, (part v.0 n (omega linear) (omega linear) s.1).0)

  loop_tidy : (n : ℕ) (inside : List ℕ) (r i x : ℕ) (g : Formula) (s : Stmt) → i < n → i < rows t → x < r → Fresh r inside
      → Clean t (misread t n false inside i) → MarkFreeᶠ r g → Tidy x s → (w : Row) → row t i ≡ w
      → Tidy r (loop_node (expr_at t) (formula_at t) r g w s)
  loop_tidy n inside r i x g s h k l fresh c guard body (Row.Note f v) e =
      let p = note_free inside r n i (fresh r (omega linear)) h k e c in
      ((guard, p.0, p.1, body.1 r l, body.0), λ m d. (d, body.1 m (omega linear)))
  loop_tidy n inside r i x g s h k l fresh c guard body (Row.Expression w) e = (tt, λ m d. tt)
  loop_tidy n inside r i x g s h k l fresh c guard body (Row.Formula w) e = (tt, λ m d. tt)
  loop_tidy n inside r i x g s h k l fresh c guard body (Row.Statement w) e = (tt, λ m d. tt)
  loop_tidy n inside r i x g s h k l fresh c guard body (Row.Script p a q) e = (tt, λ m d. tt)
  loop_tidy n inside r i x g s h k l fresh c guard body Row.Unknown e = (tt, λ m d. tt)

  abbrev TidyAt : ℕ → Type 0
  TidyAt r = (n : ℕ) (inside : List ℕ) → r < n → r < rows t → Fresh r inside → Clean t (misread t n false inside r) → Tidy r (stmt_at t r)

  module _ (r n : ℕ) (inside : List ℕ) (h : r ≤ n) (g : r < rows t) (fresh : Fresh r inside) (lower : (k : ℕ) → k < r → TidyAt k) where
    part : (k : ℕ) → k < r → Clean t (misread t n false inside k) → Tidy k (stmt_at t k)
    part k l c = lower k l n inside (omega linear) (omega linear) (λ i m. fresh i (omega linear)) c

    tidy_node : (w : Row) → T (all_below t r (parts w)) → Clean t (misread_node t (misread t n) false inside r w)
        → Tidy r (stmt_node (expr_at t) (formula_at t) (stmt_at t) (row t) r w)
    tidy_node (Row.Statement Skip) l c = (tt, λ m k. tt)
    tidy_node (Row.Statement (Assign v e)) l c = (tt, λ m k. tt)
    tidy_node (Row.Statement (Sequence a b)) l c =
        let d = lower₂ a.0 b.0 r l in
        let s = clean₂ t (misread t n false inside a.0) (misread t n false inside b.0) c in
        let p = part a.0 d.0 s.0 in
        let q = part b.0 d.1 s.1 in
        ((p.0, q.0), λ m k. (p.1 m (omega linear), q.1 m (omega linear)))
    tidy_node (Row.Statement (If b x y)) l c =
        let d = lower₃ b.0 x.0 y.0 r l in
        let s = clean₃ t (misread t n true inside b.0) (misread t n false inside x.0) (misread t n false inside y.0) c in
        let p = part x.0 d.1.0 s.1 in
        let q = part y.0 d.1.1 s.2 in
        ((p.0, q.0), λ m k. (p.1 m (omega linear), q.1 m (omega linear)))
    tidy_node (Row.Statement (While b i x)) l c =
        let d = lower₃ b.0 i.0 x.0 r l in
        let s = clean₃ t (misread t n true inside b.0) (misread t n false inside i.0) (misread t n false (r ∷ inside) x.0) c in
        loop_tidy n inside r i.0 x.0 (formula_at t b.0) (stmt_at t x.0) (omega linear) (omega linear) d.1.1 fresh s.1
        (free t ok true inside r tt b.0 n (omega linear) (omega linear) s.0).1
        (lower x.0 d.1.1 n (r ∷ inside) (omega linear) (omega linear) (fresh_inside x.0 r inside d.1.1 fresh) s.2)
        (row t i.0) refl
    tidy_node (Row.Statement (Assert f)) l c = (tt, λ m k. tt)
    tidy_node (Row.Expression w) l c = (tt, λ m k. tt)
    tidy_node (Row.Formula w) l c = (tt, λ m k. tt)
    tidy_node (Row.Note i v) l c = (tt, λ m k. tt)
    tidy_node (Row.Script p s q) l c = (tt, λ m k. tt)
    tidy_node Row.Unknown l c = (tt, λ m k. tt)

  next_tidy : (r : ℕ) → ((k : ℕ) → k < r → TidyAt k) → TidyAt r
  unfolding misread
  next_tidy r lower zero inside h g fresh c = absurd (omega linear)
  next_tidy r lower (suc n) inside h g fresh c =
      rw (stmt_is t ok r g refl) (tidy_node r n inside (omega linear) g fresh lower (row t r) (ok.ordered r g) c)

  -- ---- the script row

  script_scoped : (n : ℕ) → rows t ≡ suc n → (w : Row) → row t (rows t - 1) ≡ w
      → Clean t (misread_node t (misread t n) false [] (rows t - 1) w)
      → WellScoped (script_node (expr_at t) (formula_at t) (stmt_at t) (rows t - 1) w).body
  script_scoped n h (Row.Script p s q) e c =
      let d = lower₃ p.0 s.0 q.0 (rows t - 1) (below t ok (rows t - 1) (omega linear) e) in
      let k = clean₃ t (misread t n false [] p.0) (misread t n false [] s.0) (misread t n false [] q.0) c in
      (by_lower TidyAt next_tidy s.0 n [] (omega linear) (omega linear) (λ i l. tt) k.1).0
  script_scoped n h (Row.Expression w) e c = tt
  script_scoped n h (Row.Formula w) e c = tt
  script_scoped n h (Row.Statement w) e c = tt
  script_scoped n h (Row.Note i v) e c = tt
  script_scoped n h Row.Unknown e c = tt

  scoped_by : (n : ℕ) → n ≡ rows t → Clean t (misread t n false [] (rows t - 1)) → WellScoped (tree t).body
  unfolding misread
  scoped_by zero e c = absurd (let f = ok.filled in omega linear)
  scoped_by (suc n) e c = rw (tree_is t refl) (script_scoped n (omega linear) (row t (rows t - 1)) refl c)

pub scoped : (t : List ℤ) → verdict t ≡ accepted → WellScoped (tree t).body
unfolding misreads
scoped t h = let ok = passed t h in scoped_by t ok (rows t) refl ok.placed
