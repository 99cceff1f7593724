-- The renamed marks. `Here k r is js`: new row k is a copy of row r, which stands in the script inside the loops `is`,
-- and k inside their copies `js`; each mark that may stand there is renamed to the copy in the same place of the list.
-- It holds of the script (`here_top`), and goes from a row to its parts (`here_part`).
-- Argument: the next copy of loop m above a row is the same for a row and its parts, since what stands between them
-- came from rows below m, except for the body of m, where it is the copy of m that it is the body of. Assumes nothing.
use Rattle.std.specs.Prelude.{ℕ, suc, ◌-◌, ◌≤◌, ◌<◌, ◌≡◌, ◌⊎◌, List, [], ◌∷◌, Bool, true, false, cond, ℤ, eqb, length, get_or}
use Rattle.std.proofs.Math.Path.{refl, subst}
use Rattle.std.proofs.Common.{sym, ap, ◌∙◌, inl, inr, true≢false, arith as linear, eqb-true, eq-eqb, ne_eqb}
use Rattle.std.proofs.lemmas.Bool.{false≢true, eqb-false}
use Rattle.script.specs.declared.RowNumber.{RowNumber}
use Rattle.script.specs.declared.ExpressionRow.TheVariants.{Mark}
use Rattle.script.specs.declared.StatementRow.TheVariants.{Skip, Assign, Sequence, If, While, Assert}
use Rattle.script.specs.declared.Row.{Row}
use Rattle.script.specs.Rows.{Part, parts, rows, row}
use Rattle.script.specs.Refusals.{member}
use Rattle.theorems.specs.Tests.{or_iff}
use Rattle.theorems.specs.Links.{Link, here, there}
use Rattle.theorems.specs.Standing.{inside_at, code_at, Stands, script, link}
use Rattle.mending.specs.Copies.{origins}
use Rattle.mending.specs.NewTable.{renamed, part_places}
use Rattle.mending.specs.Falling.{link_below}
use Rattle.mending.specs.Layout.{origin, Copied, copy, Spread, none, more, copied_le, spread_le, spots, places_are, whole_copied}
use Rattle.mending.specs.Mendable.{Mendable}
use Rattle.mending.specs.InScope.{above, mark_within}
use Rattle.mending.specs.Nameless.{index}
use Rattle.mending.specs.NextCopy.{copied_old, hits, misses, skips}

module _ (t : List ℤ) (ok : Mendable t) where
  abbrev total : ℕ
  total = length (origins t)

  -- ---- marks and their copies

  -- at new row k, a mark of one of the loops `is` is renamed to the copy in the same place of `js`, which is above k
  pub record Renamed (k : ℕ) (is js : List ℕ) (m : ℕ) : Type 0 where
    pub higher : k < renamed t k m
    pub within : renamed t k m < total
    pub same : index (renamed t k m) js ≡ index m is
    pub stands : member (renamed t k m) js ≡ true
    pub came : origin t (renamed t k m) ≡ m

  abbrev pub Scoped : ℕ → List ℕ → List ℕ → Type 0
  Scoped k is js = (m : ℕ) → member m is ≡ true → Renamed k is js m

  pub record Here (k r : ℕ) (is js : List ℕ) : Type 0 where
    pub start : ℕ
    pub copied : Copied t start k r
    pub code : Bool
    pub place : Stands t r code is
    pub scoped : Scoped k is js

  pub here_top : Here (total - 1) (rows t - 1) [] []
  here_top = record {
    start = 0;
    copied = whole_copied t ok.falls ok.filled;
    code = false;
    place = script;
    scoped = λ m e. absurd (false≢true e);
  }

  -- the place of a part
  record PartAt (lo k p j : ℕ) : Type 0 where
    pub start : ℕ
    pub copied : Copied t start j p
    pub higher : lo ≤ j
    pub lower : j < k

  part_at : {lo k : ℕ} {ps : List Part} (s : Spread t lo k ps) {p i : ℕ} → Link p i ps
      → PartAt lo k p (get_or (spots t s) i 0)
  unfolding spots
  part_at (none {k = k}) {p = p} {i = i} x4 = elim x4 [ ]
  part_at (more {lo = lo} {j = j} c s) (here e) = record {
    start = lo;
    copied = subst (λ (x : ℕ). Copied t lo j x) e c;
    higher = copied_le t c;
    lower = spread_le t s;
  }
  part_at (more c s) (there l) =
      let a = part_at s l in
      let b = copied_le t c in
      record { start = a.start; copied = a.copied; higher = omega (linear, a.higher); lower = a.lower }

  -- the last part ends right before its parent
  last_part : {lo k : ℕ} {ps : List Part} (s : Spread t lo k ps) {p i : ℕ} → Link p i ps → suc i ≡ length ps
      → suc (get_or (spots t s) i 0) ≡ k
  unfolding spots
  last_part (none {k = k}) {p = p} {i = i} x8 d = elim x8 [ ]
  last_part (more c none) (here e) d = refl
  last_part (more c (more c' s)) (here e) d = absurd (omega linear)
  last_part (more c s) (there l) d = last_part s l (omega linear)

  -- the scope of a part that is no body
  same_scope : {k r : ℕ} {is js : List ℕ} → Here k r is js → (j : ℕ) → j < k
      → ((q : ℕ) → j < q → q ≤ k → origin t q ≤ r) → k < total → Scoped j is js
  same_scope {k} {r} {is} {js} H j l f h m e =
      let up = (above t ok.falls ok.filled H.place).1 m e in
      let R = H.scoped m e in
      let s = skips t ok (k - j) j k m (omega linear) h (λ q a b. let x = f q a b in omega linear) in
      record {
        higher = subst (λ (x : ℕ). j < x) (sym s) (omega (linear, R.higher));
        within = subst (λ (x : ℕ). x < total) (sym s) R.within;
        same = subst (λ (x : ℕ). index x js ≡ index m is) (sym s) R.same;
        stands = subst (λ (x : ℕ). member x js ≡ true) (sym s) R.stands;
        came = subst (λ (x : ℕ). origin t x ≡ m) (sym s) R.came;
      }

  -- the scope of the body of loop r, which ends right before its row
  body_scope : {k r : ℕ} {is js : List ℕ} → Here k r is js → (j : ℕ) → suc j ≡ k → k < total → origin t k ≡ r
      → Scoped j (r ∷ is) (k ∷ js)
  body_scope {k} {r} {is} {js} H j l h o m e = go (eqb m r) refl ((or_iff (eqb m r) (member m is)).0 e)
    where
      own : m ≡ r → Renamed j (r ∷ is) (k ∷ js) m
      own d =
          let s : renamed t j m ≡ k = hits t ok j m (omega linear) (ap (origin t) l ∙ o ∙ sym d) ∙ l in
          record {
            higher = omega linear;
            within = omega linear;
            same = rw (s, eq-eqb k k refl, eq-eqb m r d);
            stands = rw (s, eq-eqb k k refl);
            came = ap (origin t) s ∙ o ∙ sym d;
          }

      outer : (m ≡ r → ⊥) → member m is ≡ true → Renamed j (r ∷ is) (k ∷ js) m
      outer d x =
          let R = H.scoped m x in
          let s : renamed t j m ≡ renamed t k m =
          misses t ok j m (omega linear) (λ y. d (sym y ∙ ap (origin t) l ∙ o)) ∙ ap (λ (a : ℕ). renamed t a m) l in
          record {
            higher = omega (linear, R.higher);
            within = omega (linear, R.within);
            same = subst (λ (x : ℕ). index x (k ∷ js) ≡ index m (r ∷ is)) (sym s) (rw (ne_eqb (renamed t k m) k (λ y. omega (linear, R.higher)), ne_eqb m r d, R.same));
            stands = subst (λ (x : ℕ). member x (k ∷ js) ≡ true) (sym s) (rw (ne_eqb (renamed t k m) k (λ y. omega (linear, R.higher)), R.stands));
            came = ap (origin t) s ∙ R.came;
          }

      go : (b : Bool) → eqb m r ≡ b → (eqb m r ≡ true) ⊎ (member m is ≡ true) → Renamed j (r ∷ is) (k ∷ js) m
      go true d s = own (eqb-true m r d)
      go false d (inl s) = absurd (true≢false (sym s ∙ d))
      go false d (inr s) = outer (eqb-false m r d) s

  -- ---- from a row to its parts

  scope_part : (w : Row) (i k r j : ℕ) (is js : List ℕ) → Scoped j is js
      → (suc i ≡ length (parts w) → Scoped j (r ∷ is) (k ∷ js))
      → Scoped j (inside_at r w i is) (inside_at k w i js)
  scope_part (Row.Expression x) i k r j is js f g = f
  scope_part (Row.Formula x) i k r j is js f g = f
  scope_part (Row.Statement Skip) i k r j is js f g = f
  scope_part (Row.Statement (Assign v x)) i k r j is js f g = f
  scope_part (Row.Statement (Sequence x y)) i k r j is js f g = f
  scope_part (Row.Statement (If b x y)) i k r j is js f g = f
  scope_part (Row.Statement (While b n x)) i k r j is js f g = body (eqb i 2) refl
    where
      body : (c : Bool) → eqb i 2 ≡ c → Scoped j (cond c (r ∷ is) is) (cond c (k ∷ js) js)
      body true d = g (ap suc (eqb-true i 2 d))
      body false d = f
  scope_part (Row.Statement (Assert x)) i k r j is js f g = f
  scope_part (Row.Note a b) i k r j is js f g = f
  scope_part (Row.Script p s q) i k r j is js f g = f
  scope_part Row.Unknown i k r j is js f g = f

  pub here_part : {k r : ℕ} {is js : List ℕ} → Here k r is js → (w : Row) → row t r ≡ w → {p i : ℕ} → Link p i (parts w)
      → Here (get_or (part_places t k r) i 0) p (inside_at r w i is) (inside_at k w i js)
  here_part {k} {r} {is} {js} H w e {p} {i} l = go H.copied
    where
      old_link : Link p i (parts (row t r))
      old_link = subst (λ (v : Row). Link p i (parts v)) (sym e) l

      at_spot : {lo : ℕ} (j : ℕ) → Copied t lo k r → PartAt lo k p j → (suc i ≡ length (parts w) → suc j ≡ k)
          → k < total → origin t k ≡ r
          → Here j p (inside_at r w i is) (inside_at k w i js)
      at_spot j c P last h o = record {
        start = P.start;
        copied = P.copied;
        code = code_at w i H.code;
        place =
            subst (λ (v : Row). Stands t p (code_at v i H.code) (inside_at r v i is)) e (link H.place old_link);
        scoped =
            scope_part w i k r j is js (same_scope H j P.lower
            (λ q a b. copied_old t ok c q (let x = P.higher in omega linear) b) h)
            (λ d. body_scope H j (last d) h o);
      }

      go : {lo : ℕ} → Copied t lo k r → Here (get_or (part_places t k r) i 0) p (inside_at r w i is) (inside_at k w i js)
      go (copy s o h b) =
          subst (λ (ps : List ℕ). Here (get_or ps i 0) p (inside_at r w i is) (inside_at k w i js))
          (sym (places_are t ok.falls r s))
          (at_spot (get_or (spots t s) i 0) (copy s o h b) (part_at s old_link)
          (λ d. last_part s old_link (d ∙ ap (λ (v : Row). length (parts v)) (sym e))) h o)

  pub here_lower : {k r : ℕ} {is js : List ℕ} → Here k r is js → {p i : ℕ} → Link p i (parts (row t r))
      → (p < r) × (get_or (part_places t k r) i 0 < k)
  here_lower {k} {r} H {p} {i} l =
      (link_below t r (ok.falls r (above t ok.falls ok.filled H.place).0) l, go H.copied)
    where
      go : {lo : ℕ} → Copied t lo k r → get_or (part_places t k r) i 0 < k
      go (copy s o h b) =
          subst (λ (ps : List ℕ). get_or ps i 0 < k) (sym (places_are t ok.falls r s)) (part_at s l).lower

  -- a mark stands inside the body of its loop
  pub mark_inside : {k r : ℕ} {is js : List ℕ} → Here k r is js → (m : RowNumber) → row t r ≡ Row.Expression (Mark m)
      → member m.0 is ≡ true
  mark_inside H m e = mark_within t ok.falls ok.filled ok.inside H.place m e
