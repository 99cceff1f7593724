-- The links of the new table: new row k, a copy of row r, links to the copies of the parts of r that stand before it,
-- one after the other (`new_parts`). By the parts of the old row, renewed one by one. Assumes nothing.
use Rattle.std.specs.Prelude.{ℕ, suc, ◌<◌, ◌≡◌, ℤ, length, get_or}
use Rattle.std.proofs.Math.Path.{refl, ap}
use Rattle.std.proofs.Common.{subst, ◌∙◌, arith as linear}
use mathlib.Core.List.{List, [], ◌∷◌}
use Rattle.script.specs.Rows.{Field, value, variable, target, loop, link, Part, fields, links, parts, rows, row}
use Rattle.mending.specs.Copies.{origins}
use Rattle.mending.specs.NewTable.{renamed, part_places, new_table}
use Rattle.mending.specs.Layout.{origin, Spread, none, more, spots, places_are}
use Rattle.mending.specs.Mendable.{Mendable}
use Rattle.mending.specs.Renew.{renew, renew_fields, fields_renewed}
use Rattle.mending.specs.NewRows.{new_row}

-- ---- parts renewed

-- the parts ps with their rows taken from js, the next being number i
abbrev renew_parts : List ℕ → ℕ → List Part → List Part
renew_parts js i [] = []
renew_parts js i (p ∷ ps) = record { at = get_or js i 0; sort = p.sort } ∷ renew_parts js (suc i) ps

links_renewed : (ρ : ℕ → ℕ) (js : List ℕ) (i : ℕ) (fs : List Field)
    → links (renew_fields ρ js i fs) ≡ renew_parts js i (links fs)
links_renewed ρ js i [] = refl
links_renewed ρ js i (value ∷ fs) = links_renewed ρ js i fs
links_renewed ρ js i (variable v ∷ fs) = links_renewed ρ js i fs
links_renewed ρ js i (target v ∷ fs) = links_renewed ρ js i fs
links_renewed ρ js i (loop m ∷ fs) = links_renewed ρ js i fs
links_renewed ρ js i (link s r ∷ fs) =
    ap (λ (l : List Part). record { at = get_or js i 0; sort = s } ∷ l) (links_renewed ρ js (suc i) fs)

shifted : (j : ℕ) (js : List ℕ) (i : ℕ) (ps : List Part) → renew_parts (j ∷ js) (suc i) ps ≡ renew_parts js i ps
shifted j js i [] = refl
shifted j js i (p ∷ ps) =
    ap (λ (l : List Part). record { at = get_or js i 0; sort = p.sort } ∷ l) (shifted j js (suc i) ps)

module _ (t : List ℤ) where
  -- the parts as the copy of their parent links to them
  unfoldable pub copied_parts : {lo k : ℕ} {ps : List Part} → Spread t lo k ps → List Part
  copied_parts none = []
  copied_parts (more {j = j} {p = p} c s) = record { at = j; sort = p.sort } ∷ copied_parts s

  spots_parts : {lo k : ℕ} {ps : List Part} (s : Spread t lo k ps) → renew_parts (spots t s) 0 ps ≡ copied_parts s
  unfolding copied_parts spots
  spots_parts none = refl
  spots_parts (more {j = j} {p = p} {ps = ps} c s) =
      ap (λ (l : List Part). record { at = j; sort = p.sort } ∷ l) (shifted j (spots t s) 0 ps ∙ spots_parts s)

module _ (t : List ℤ) (ok : Mendable t) where
  pub row_is : {k r : ℕ} → origin t k ≡ r → k < length (origins t) → r < rows t
      → row (new_table t) k ≡ renew (renamed t k) (part_places t k r) (row t r)
  row_is {k} {r} e h i =
      subst (λ (x : ℕ). row (new_table t) k ≡ renew (renamed t k) (part_places t k x) (row t x)) e
      (new_row t k h (ok.known (origin t k) (omega linear)))

  pub new_parts : (r : ℕ) {lo k : ℕ} (s : Spread t lo k (parts (row t r))) → origin t k ≡ r → k < length (origins t)
      → r < rows t
      → parts (row (new_table t) k) ≡ copied_parts t s
  new_parts r {lo} {k} s e h i =
      let ρ = renamed t k in
      let js = part_places t k r in
      ap parts (row_is e h i) ∙ ap links (fields_renewed ρ js (row t r)) ∙ links_renewed ρ js 0 (fields (row t r))
      ∙ ap (λ (l : List ℕ). renew_parts l 0 (parts (row t r))) (places_are t ok.falls r s) ∙ spots_parts t s
