-- The marks of the new table stand inside the bodies of the loops that they name (`marks_inside`), and the run of old
-- rows is right: a new row is its old row but for links and marks (`row_right`), links go to copies of the rows linked
-- (`links_right`), marks to copies of their loops (`mark_right`). Each at the place that `Everywhere` gives. Assumes
-- nothing.
use Rattle.std.specs.Prelude.{ℕ, ◌<◌, ◌≡◌, refl, List, Bool, true, ℤ, length}
use Rattle.std.proofs.Common.{sym, ap, subst, ◌∙◌, true≢false}
use Rattle.script.specs.declared.RowNumber.{RowNumber}
use Rattle.script.specs.declared.ExpressionRow.TheVariants.{Constant, Variable, Arithmetic, Negate, Mark, Choose}
use Rattle.script.specs.declared.FormulaRow.TheVariants.{True, False, Comparison, Not, Junction}
use Rattle.script.specs.declared.StatementRow.TheVariants.{Skip, Assign, Sequence, If, While, Assert}
use Rattle.script.specs.declared.Row.{Row}
use Rattle.script.specs.Rows.{parts, row}
use Rattle.script.specs.Refusals.{member}
use Rattle.theorems.specs.Links.{Link}
use Rattle.theorems.specs.Standing.{Stands}
use Rattle.mending.specs.Copies.{origins}
use Rattle.mending.specs.NewTable.{renamed, part_places, new_table}
use Rattle.mending.specs.Escape.{Escaping, AMark}
use Rattle.mending.specs.Layout.{origin}
use Rattle.mending.specs.Mendable.{Mendable}
use Rattle.mending.specs.Renew.{renew}
use Rattle.mending.specs.Renaming.{Renamed, Here, here_part, mark_inside}
use Rattle.mending.specs.Everywhere.{here_at, here_of, came, renewed_row, old_link}

module _ (t : List ℤ) (ok : Mendable t) where
  abbrev total : ℕ
  total = length (origins t)

  abbrev u : List ℤ
  u = new_table t

  old_mark : (ρ : ℕ → ℕ) (pl : List ℕ) (w : Row) → AMark (renew ρ pl w)
      → (x : RowNumber) × (w ≡ Row.Expression (Mark x))
  old_mark ρ pl (Row.Expression (Mark x)) h = (x, refl)
  old_mark ρ pl (Row.Expression (Constant z)) h = absurd h
  old_mark ρ pl (Row.Expression (Variable v)) h = absurd h
  old_mark ρ pl (Row.Expression (Arithmetic o a b)) h = absurd h
  old_mark ρ pl (Row.Expression (Negate a)) h = absurd h
  old_mark ρ pl (Row.Expression (Choose f a b)) h = absurd h
  old_mark ρ pl (Row.Formula True) h = absurd h
  old_mark ρ pl (Row.Formula False) h = absurd h
  old_mark ρ pl (Row.Formula (Comparison o a b)) h = absurd h
  old_mark ρ pl (Row.Formula (Not f)) h = absurd h
  old_mark ρ pl (Row.Formula (Junction o f g)) h = absurd h
  old_mark ρ pl (Row.Statement Skip) h = absurd h
  old_mark ρ pl (Row.Statement (Assign v e)) h = absurd h
  old_mark ρ pl (Row.Statement (Sequence a b)) h = absurd h
  old_mark ρ pl (Row.Statement (If b x y)) h = absurd h
  old_mark ρ pl (Row.Statement (While b n x)) h = absurd h
  old_mark ρ pl (Row.Statement (Assert f)) h = absurd h
  old_mark ρ pl (Row.Note a v) h = absurd h
  old_mark ρ pl (Row.Script p s q) h = absurd h
  old_mark ρ pl Row.Unknown h = absurd h

  -- a mark of the new table: its old row is a mark, and its loop is the renamed one
  pub record MarkOf (k r : ℕ) (is js : List ℕ) (m : RowNumber) : Type 0 where
    pub loop : RowNumber
    pub old : row t r ≡ Row.Expression (Mark loop)
    pub named : m.0 ≡ renamed t k loop.0
    pub renames : Renamed t ok k is js loop.0

  pub mark_of : {k r : ℕ} {is js : List ℕ} → Here t ok k r is js → (m : RowNumber) → row u k ≡ Row.Expression (Mark m)
      → MarkOf k r is js m
  mark_of {k} {r} {is} {js} H m e =
      let ρ = renamed t k in
      let pl = part_places t k r in
      let x = old_mark ρ pl (row t r) (subst AMark (sym e ∙ renewed_row t ok H) tt) in
      let both : Row.Expression (Mark m) ≡ renew ρ pl (Row.Expression (Mark x.0)) =
      sym e ∙ renewed_row t ok H ∙ ap (λ (w : Row). renew ρ pl w) x.1 in
      let same : m.0 ≡ ρ x.0.0 = number both in
      record { loop = x.0; old = x.1; named = same; renames = H.scoped x.0.0 (mark_inside t ok H x.0 x.1) }
    where
      number : {a : RowNumber} {n : ℕ} → Row.Expression (Mark a) ≡ Row.Expression (Mark (record { 0 = n })) → a.0 ≡ n
      number d = cc

  -- the marks of the new table stand inside the bodies of the loops that they name
  pub marks_inside : {k : ℕ} {code : Bool} {js : List ℕ} → Stands u k code js → (m : RowNumber)
      → row u k ≡ Row.Expression (Mark m)
      → member m.0 js ≡ true
  marks_inside {k} {code} {js} S m e =
      let P = here_of t ok S in
      let M = mark_of P.place m e in
      subst (λ (x : ℕ). member x js ≡ true) (sym M.named) M.renames.stands

  pub none_escapes : (k : ℕ) → ¬ Escaping u k
  none_escapes k E = true≢false (sym (marks_inside E.2.2 E.0 E.1) ∙ E.2.3)

  -- ---- "A lent run says, for each new row, the old row it came from"

  -- its fields other than links and marks are those of the old row
  pub row_right : (k : ℕ) → k < total
      → row u k ≡ renew (renamed t k) (part_places t k (origin t k)) (row t (origin t k))
  row_right k h =
      let S = here_at t ok k h in
      subst (λ (x : ℕ). row u k ≡ renew (renamed t k) (part_places t k x) (row t x)) (sym (came t ok S.place).0)
      (renewed_row t ok S.place)

  -- a link goes to a copy of the row that the old link goes to
  pub links_right : (k : ℕ) → k < total → {j i : ℕ} → Link j i (parts (row u k))
      → Link (origin t j) i (parts (row t (origin t k)))
  links_right k h {j} {i} l =
      let S = here_at t ok k h in
      let H = S.place in
      let o = old_link t ok H l in
      let N = here_part t ok H (row t S.old) refl o.1 in
      let e : origin t j ≡ o.0 = ap (origin t) (sym o.2) ∙ (came t ok N).0 in
      subst (λ (x : ℕ). Link x i (parts (row t (origin t k)))) (sym e)
      (subst (λ (x : ℕ). Link o.0 i (parts (row t x))) (sym (came t ok H).0) o.1)

  -- a mark names a copy of the loop that the old mark names
  pub mark_right : (k : ℕ) → k < total → (m : RowNumber) → row u k ≡ Row.Expression (Mark m)
      → (x : RowNumber) × (row t (origin t k) ≡ Row.Expression (Mark x)) × (origin t m.0 ≡ x.0)
  mark_right k h m e =
      let S = here_at t ok k h in
      let M = mark_of S.place m e in
      (M.loop, ap (row t) (came t ok S.place).0 ∙ M.old, ap (origin t) M.named ∙ M.renames.came)
