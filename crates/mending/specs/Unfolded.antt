-- "Old and new unfold to the same script, marks apart": `same_script`. `Trees.tree` is the unfolding of both tables; it
-- needs only links that fall. Row by row, by induction on its bound, from `RowCases`. Assumes nothing.
use Prim.Native.Nat.{ℕ, zero, suc, ◌-◌, ◌<◌}
use Rattle.std.specs.Prelude.{◌≡◌, List, ℤ}
use Rattle.std.proofs.Math.Path.{refl, ap, subst}
use Rattle.std.proofs.Common.{sym, ◌∙◌, arith as linear}
use Rattle.std.proofs.Math.ListN.{length, get_or}
use Rattle.script.specs.declared.Row.{Row}
use Rattle.script.specs.Rows.{rows, row}
use Rattle.script.specs.Trees.{expr_node, formula_node, loop_node, stmt_node, script_node, expr, formula, stmt, expr_at, formula_at, stmt_at, tree}
use Rattle.theorems.specs.Standing.{inside_at}
use Rattle.mending.specs.Copies.{origins}
use Rattle.mending.specs.NewTable.{renamed, part_places, new_table}
use Rattle.mending.specs.Mendable.{Mendable}
use Rattle.mending.specs.NewRows.{new_rows}
use Rattle.mending.specs.Nameless.{nameless, namelessᶠ, namelessˢ, nameless_tree, erased_tree, erased_nameless}
use Rattle.mending.specs.Renaming.{Here, here_top, here_part, here_lower, mark_inside}
use Rattle.mending.specs.Everywhere.{renewed_row}
use Rattle.mending.specs.RowCases.{expr_case, formula_case, stmt_case, loop_case, script_case}

module _ (t : List ℤ) (ok : Mendable t) where
  abbrev u : List ℤ
  u = new_table t

  mutual
    unfolding expr formula

    expr_same : (n m : ℕ) {k r : ℕ} {is js : List ℕ} → Here t ok k r is js → r < n → k < m
        → nameless js (expr u m k) ≡ nameless is (expr t n r)
    expr_same zero m H a b = absurd (omega linear)
    expr_same (suc n) zero H a b = absurd (omega linear)
    expr_same (suc n) (suc m) {k} {r} {is} {js} H a b =
        subst (λ (w : Row). nameless js (expr_node (λ x. expr u m x) (λ x. formula u m x) w) ≡ nameless is
        (expr_node (λ x. expr t n x) (λ x. formula t n x) (row t r)))
        (sym (renewed_row t ok H))
        (expr_case (λ x. expr t n x) (λ x. expr u m x) (λ x. formula t n x) (λ x. formula u m x) (stmt t n) (stmt u m)
        (row t) (row u) k r is js
        (part_places t k r) (renamed t k) (row t r)
        (λ i p l.
        let c = here_lower t ok H l in
        expr_same n m (here_part t ok H (row t r) refl l) (omega linear) (omega linear))
        (λ i p l.
        let c = here_lower t ok H l in
        formula_same n m (here_part t ok H (row t r) refl l) (omega linear) (omega linear))
        (λ x e. (H.scoped x.0 (mark_inside t ok H x e)).same))

    formula_same : (n m : ℕ) {k r : ℕ} {is js : List ℕ} → Here t ok k r is js → r < n → k < m
        → namelessᶠ js (formula u m k) ≡ namelessᶠ is (formula t n r)
    formula_same zero m H a b = absurd (omega linear)
    formula_same (suc n) zero H a b = absurd (omega linear)
    formula_same (suc n) (suc m) {k} {r} {is} {js} H a b =
        subst (λ (w : Row). namelessᶠ js (formula_node (λ x. expr u m x) (λ x. formula u m x) w) ≡ namelessᶠ is
        (formula_node (λ x. expr t n x) (λ x. formula t n x) (row t r)))
        (sym (renewed_row t ok H))
        (formula_case (λ x. expr t n x) (λ x. expr u m x) (λ x. formula t n x) (λ x. formula u m x) (stmt t n)
        (stmt u m) (row t) (row u) k r is js
        (part_places t k r) (renamed t k) (row t r)
        (λ i p l.
        let c = here_lower t ok H l in
        expr_same n m (here_part t ok H (row t r) refl l) (omega linear) (omega linear))
        (λ i p l.
        let c = here_lower t ok H l in
        formula_same n m (here_part t ok H (row t r) refl l) (omega linear) (omega linear)))

  stmt_same : (n m : ℕ) {k r : ℕ} {is js : List ℕ} → Here t ok k r is js → r < n → k < m
      → namelessˢ js (stmt u m k) ≡ namelessˢ is (stmt t n r)
  unfolding stmt
  stmt_same zero m H a b = absurd (omega linear)
  stmt_same (suc n) zero H a b = absurd (omega linear)
  stmt_same (suc n) (suc m) {k} {r} {is} {js} H a b =
      subst (λ (w : Row). namelessˢ js (stmt_node (expr u m) (formula u m) (stmt u m) (row u) k w) ≡ namelessˢ is
      (stmt_node (expr t n) (formula t n) (stmt t n) (row t) r (row t r)))
      (sym (renewed_row t ok H))
      (stmt_case (expr t n) (expr u m) (formula t n) (formula u m) (stmt t n) (stmt u m) (row t) (row u) k r is js
      (part_places t k r) (renamed t k)
      (row t r)
      (λ i p l.
      let c = here_lower t ok H l in
      expr_same n m (here_part t ok H (row t r) refl l) (omega linear) (omega linear))
      (λ i p l.
      let c = here_lower t ok H l in
      formula_same n m (here_part t ok H (row t r) refl l) (omega linear) (omega linear))
      (λ i p l.
      let c = here_lower t ok H l in
      stmt_same n m (here_part t ok H (row t r) refl l) (omega linear) (omega linear))
      (λ p l b₀ b₁ x₀ x₁ hb hx.
      let c = here_lower t ok H l in
      let N = here_part t ok H (row t r) refl l in
      let j = get_or (part_places t k r) 1 0 in
      subst (λ (w : Row). namelessˢ (inside_at k (row t r) 1 js) (loop_node (expr u m) (formula u m) k b₁ w x₁)
      ≡ namelessˢ (inside_at r (row t r) 1 is) (loop_node (expr t n) (formula t n) r b₀ (row t p) x₀))
      (sym (renewed_row t ok N))
      (loop_case (expr t n) (expr u m) (formula t n) (formula u m) (stmt t n) (stmt u m) (row t) (row u) j p
      (inside_at r (row t r) 1 is)
      (inside_at k (row t r) 1 js) (part_places t j p) (renamed t j) (row t p) r k b₀ b₁ x₀ x₁
      (λ i q d.
      let e = here_lower t ok N d in
      expr_same n m (here_part t ok N (row t p) refl d) (omega linear) (omega linear))
      (λ i q d.
      let e = here_lower t ok N d in
      formula_same n m (here_part t ok N (row t p) refl d) (omega linear) (omega linear)) hb hx)))

  pub same_script : nameless_tree (tree u) ≡ nameless_tree (tree t)
  unfolding tree formula_at stmt_at
  same_script =
      let H = here_top t ok in
      let k = length (origins t) - 1 in
      let r = rows t - 1 in
      let last : rows u - 1 ≡ k = ap (λ (n : ℕ). n - 1) (new_rows t) in
      subst (λ (x : ℕ). nameless_tree (script_node (expr_at u) (formula_at u) (stmt_at u) x (row u x)) ≡ nameless_tree
      (script_node (expr_at t) (formula_at t) (stmt_at t) r (row t r)))
      (sym last)
      (subst (λ (w : Row). nameless_tree (script_node (expr_at u) (formula_at u) (stmt_at u) k w) ≡ nameless_tree
      (script_node (expr_at t) (formula_at t) (stmt_at t) r (row t r)))
      (sym (renewed_row t ok H))
      (script_case (expr_at t) (expr_at u) (formula_at t) (formula_at u) (stmt_at t) (stmt_at u) k r (part_places t k r)
      (renamed t k) (row t r)
      (λ i p l.
      let c = here_lower t ok H l in
      formula_same (rows t) (rows u) (here_part t ok H (row t r) refl l) (omega linear) (omega (linear, new_rows t)))
      (λ i p l.
      let c = here_lower t ok H l in
      stmt_same (rows t) (rows u) (here_part t ok H (row t r) refl l) (omega linear) (omega (linear, new_rows t)))))

  -- the same with all marks forgotten
  pub same_erased : erased_tree (tree u) ≡ erased_tree (tree t)
  same_erased = sym (erased_nameless (tree u)) ∙ ap erased_tree same_script ∙ erased_nameless (tree t)
