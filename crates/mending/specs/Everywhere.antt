-- Every new row has its place in the script (`here_at`), and every place of a row in the new script is one of these
-- (`here_of`).
-- Argument: down from the script, a place inside a copy is its own row's or inside the copy of one part (`covered`);
-- and each link of a new row is the copy of a link of its old row (`old_link`). Assumes nothing.
use Prim.Native.Nat.{ℕ, zero, suc, ◌+◌, ◌-◌, ◌≤◌, ◌<◌}
use Rattle.std.specs.Prelude.{◌≡◌, List, [], Bool, ℤ, length, get_or}
use Rattle.std.proofs.Math.Path.{refl}
use Rattle.std.proofs.Common.{sym, ap, subst, ◌∙◌}
use native.Mathlib.Omega.{arith as linear}
use Rattle.std.proofs.Math.Decide.{ℕ_discrete}
use Rattle.script.specs.declared.ExpressionRow.TheVariants.{Constant, Variable, Arithmetic, Negate, Mark, Choose}
use Rattle.script.specs.declared.FormulaRow.TheVariants.{True, False, Comparison, Not, Junction}
use Rattle.script.specs.declared.StatementRow.TheVariants.{Skip, Assign, Sequence, If, While, Assert}
use Rattle.script.specs.declared.Row.{Row}
use Rattle.script.specs.Rows.{Part, parts, rows, row}
use Rattle.theorems.specs.Links.{Link, here, there}
use Rattle.theorems.specs.Standing.{inside_at, Stands, script, link}
use Rattle.mending.specs.Copies.{origins, size}
use Rattle.mending.specs.NewTable.{renamed, part_places, new_table}
use Rattle.mending.specs.Falling.{by_order}
use Rattle.mending.specs.Sizes.{total_is}
use Rattle.mending.specs.Layout.{origin, Copied, copy, Spread, none, more, spots, places_are, extent}
use Rattle.mending.specs.Mendable.{Mendable}
use Rattle.mending.specs.Renew.{renew}
use Rattle.mending.specs.NewRows.{new_rows}
use Rattle.mending.specs.NewLinks.{row_is, new_parts, copied_parts}
use Rattle.mending.specs.Renaming.{Here, here_top, here_part, here_lower}

module _ (t : List ℤ) (ok : Mendable t) where
  abbrev total : ℕ
  total = length (origins t)

  abbrev u : List ℤ
  u = new_table t

  -- ---- every new row

  pub record Somewhere (k : ℕ) : Type 0 where
    pub old : ℕ
    pub loops : List ℕ
    pub copies : List ℕ
    pub place : Here t ok k old loops copies

  -- the part that covers place q ends at `end`
  record Covering (ps : List Part) (js : List ℕ) (q : ℕ) : Type 0 where
    pub field : ℕ
    pub part : ℕ
    pub link : Link part field ps
    pub up : q ≤ get_or js field 0
    pub down : suc (get_or js field 0) ≤ q + size t part

  cover : {lo k : ℕ} {ps : List Part} (s : Spread t lo k ps) (q : ℕ) → lo ≤ q → q < k
      → Covering ps (spots t s) q
  unfolding spots
  cover none q a b = absurd (omega linear)
  cover (more {j = j} {p = p} c s) q a b =
      by_order q j
      (λ l.
      let x = extent t ok.falls c in
      record { field = 0; part = p.at; link = here refl; up = l; down = omega linear })
      (λ l.
      let C = cover s q l b in
      record { field = suc C.field; part = C.part; link = there C.link; up = C.up; down = C.down })

  covered : {k r : ℕ} {is js : List ℕ} → Here t ok k r is js → (q : ℕ) → q ≤ k → suc k ≤ q + size t r → (q ≡ k → ⊥)
      → Covering (parts (row t r)) (part_places t k r) q
  covered {k} {r} H q a b d = go H.copied
    where
      go : {lo : ℕ} → Copied t lo k r → Covering (parts (row t r)) (part_places t k r) q
      go {lo} (copy s e x y) =
          let z = extent t ok.falls (copy s e x y) in
          subst (λ (l : List ℕ). Covering (parts (row t r)) l q) (sym (places_are t ok.falls r s))
          (cover s q (omega linear) (omega linear))

  descend : (n : ℕ) {k r : ℕ} {is js : List ℕ} → k < n → Here t ok k r is js → (q : ℕ) → q ≤ k → suc k ≤ q + size t r
      → Somewhere q
  descend zero h H q a b = absurd (omega linear)
  descend (suc n) {k} {r} {is} {js} h H q a b =
      last (ℕ_discrete q k) (λ d.
      let C = covered H q a b d in
      let l = here_lower t ok H C.link in
      descend n (omega linear) (here_part t ok H (row t r) refl C.link) q C.up C.down)
    where
      last : Dec (q ≡ k) → ((q ≡ k → ⊥) → Somewhere q) → Somewhere q
      last (yes d) f = subst (λ (x : ℕ). Somewhere x) (sym d) (record { old = r; loops = is; copies = js; place = H })
      last (no d) f = f d

  pub here_at : (k : ℕ) → k < total → Somewhere k
  here_at k h =
      let e = total_is t ok.falls in
      descend total (omega linear) (here_top t ok) k (omega linear) (omega linear)

  pub came : {k r : ℕ} {is js : List ℕ} → Here t ok k r is js → (origin t k ≡ r) × (k < total) × (r < rows t)
  came {k} {r} H = go H.copied
    where
      go : {lo : ℕ} → Copied t lo k r → (origin t k ≡ r) × (k < total) × (r < rows t)
      go (copy s e h i) = (e, h, i)

  -- the row of new row k
  pub renewed_row : {k r : ℕ} {is js : List ℕ} → Here t ok k r is js
      → row u k ≡ renew (renamed t k) (part_places t k r) (row t r)
  renewed_row H = let c = came H in row_is t ok c.0 c.1 c.2

  -- ---- every place in the new script

  spot_link : {lo k : ℕ} {ps : List Part} (s : Spread t lo k ps) {j i : ℕ} → Link j i (copied_parts t s)
      → (q : ℕ) × Link q i ps × (get_or (spots t s) i 0 ≡ j)
  unfolding spots copied_parts
  spot_link (none {k = k}) {j = j} {i = i} x4 = elim x4 [ ]
  spot_link (more {p = p} c s) (here e) = (p.at, here refl, e)
  spot_link (more c s) (there l) = let x = spot_link s l in (x.0, there x.1, x.2)

  -- a link of new row k, and the link of its old row that it is a copy of
  pub old_link : {k r : ℕ} {is js : List ℕ} → Here t ok k r is js → {j i : ℕ} → Link j i (parts (row u k))
      → (q : ℕ) × Link q i (parts (row t r)) × (get_or (part_places t k r) i 0 ≡ j)
  old_link {k} {r} H {j} {i} l = go H.copied
    where
      go : {lo : ℕ} → Copied t lo k r → (q : ℕ) × Link q i (parts (row t r)) × (get_or (part_places t k r) i 0 ≡ j)
      go (copy s e h b) =
          let x = spot_link s (subst (λ (ps : List Part). Link j i ps) (new_parts t ok r s e h b) l) in
          (x.0, x.1, ap (λ (ps : List ℕ). get_or ps i 0) (places_are t ok.falls r s) ∙ x.2)

  inside_renewed : (ρ : ℕ → ℕ) (pl : List ℕ) (k i : ℕ) (js : List ℕ) (w : Row)
      → inside_at k (renew ρ pl w) i js ≡ inside_at k w i js
  inside_renewed ρ pl k i js (Row.Expression (Constant z)) = refl
  inside_renewed ρ pl k i js (Row.Expression (Variable v)) = refl
  inside_renewed ρ pl k i js (Row.Expression (Arithmetic o a b)) = refl
  inside_renewed ρ pl k i js (Row.Expression (Negate a)) = refl
  inside_renewed ρ pl k i js (Row.Expression (Mark m)) = refl
  inside_renewed ρ pl k i js (Row.Expression (Choose f a b)) = refl
  inside_renewed ρ pl k i js (Row.Formula True) = refl
  inside_renewed ρ pl k i js (Row.Formula False) = refl
  inside_renewed ρ pl k i js (Row.Formula (Comparison o a b)) = refl
  inside_renewed ρ pl k i js (Row.Formula (Not f)) = refl
  inside_renewed ρ pl k i js (Row.Formula (Junction o f g)) = refl
  inside_renewed ρ pl k i js (Row.Statement Skip) = refl
  inside_renewed ρ pl k i js (Row.Statement (Assign v e)) = refl
  inside_renewed ρ pl k i js (Row.Statement (Sequence a b)) = refl
  inside_renewed ρ pl k i js (Row.Statement (If b x y)) = refl
  inside_renewed ρ pl k i js (Row.Statement (While b n x)) = refl
  inside_renewed ρ pl k i js (Row.Statement (Assert f)) = refl
  inside_renewed ρ pl k i js (Row.Note a v) = refl
  inside_renewed ρ pl k i js (Row.Script p s q) = refl
  inside_renewed ρ pl k i js Row.Unknown = refl

  pub record Place (k : ℕ) (js : List ℕ) : Type 0 where
    pub old : ℕ
    pub loops : List ℕ
    pub place : Here t ok k old loops js

  pub here_of : {k : ℕ} {code : Bool} {js : List ℕ} → Stands u k code js → Place k js
  here_of script =
      subst (λ (x : ℕ). Place x []) (ap (λ (n : ℕ). n - 1) (sym (new_rows t)))
      (record { old = rows t - 1; loops = []; place = here_top t ok })
  here_of (link {r = k} {i = i} {k = p} {inside = js} S l) = go (here_of S)
    where
      go : Place k js → Place p (inside_at k (row u k) i js)
      go P =
          let H = P.place in
          let r = P.old in
          let o = old_link H l in
          let same : inside_at k (row u k) i js ≡ inside_at k (row t r) i js =
          ap (λ (w : Row). inside_at k w i js) (renewed_row H)
          ∙ inside_renewed (renamed t k) (part_places t k r) k i js (row t r) in
          subst (λ (l : List ℕ). Place p l) (sym same)
          (subst (λ (x : ℕ). Place x (inside_at k (row t r) i js)) o.2
          (record { old = o.0; loops = inside_at r (row t r) i P.loops; place = here_part t ok H (row t r) refl o.1 }))
