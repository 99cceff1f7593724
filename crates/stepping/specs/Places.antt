-- Where rows are: past a table there is nothing (`past`), so that in an accepted table a statement is a row of it (`statement_inside`).
-- Assumes nothing.
use Rattle.std.specs.Prelude.{ℕ, ◌+◌, ◌*◌, ◌≤◌, ◌<◌, ◌≡◌, refl, Bool, true, false, List, ltb, ℤ, pos, length, get_or}
use Rattle.std.proofs.Common.{sym, ◌∙◌, arith as linear, ltb-true, ltb-false}
use Rattle.std.proofs.Math.ListN.{get_or-eq_default}
use Rattle.script.specs.declared.StatementRow.{StatementRow}
use Rattle.script.specs.declared.Row.TheVariants as Row
use Rattle.script.specs.Rows.{row, rows, row_of}
use Rattle.theorems.specs.Accepted.{Accepted}

-- a row is of the table, or past it
pub by_place : {P : Type 0} (t : List ℤ) (r : ℕ) → (r < rows t → P) → (rows t ≤ r → P) → P
by_place {P} t r inside outside = by (ltb r (rows t)) refl
  where
    by : (b : Bool) → ltb r (rows t) ≡ b → P
    by true e = inside (ltb-true r (rows t) e)
    by false e = outside (ltb-false r (rows t) e)

-- past the table there is nothing
pub past : (t : List ℤ) (r : ℕ) → length t ≤ 4 * r → row t r ≡ Row.Unknown
unfolding row row_of
past t r h =
    let e : get_or t (4 * r + 0) (pos 0) ≡ pos 0 = get_or-eq_default t (pos 0) (omega linear) in
    rw e

module _ (t : List ℤ) (ok : Accepted t) where
  pub row_beyond : (r : ℕ) → rows t ≤ r → row t r ≡ Row.Unknown
  row_beyond r h = past t r (let f = ok.fours in omega linear)

  -- a statement is a row of the table
  pub statement_inside : (r : ℕ) {w : StatementRow} → row t r ≡ Row.Statement w → r < rows t
  statement_inside r {w} e = by_place t r (λ h. h) (λ h. absurd (clash (sym (row_beyond r h) ∙ e)))
    where
      clash : Row.Unknown ≡ Row.Statement w → ⊥
      clash i = let z : ◌≡◌ {A = ℕ} 0 1 = cc in omega linear
