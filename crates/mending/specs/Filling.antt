-- Laws for the code, which writes the new table in one pass from its last row down, without a stack: the run of old
-- rows is its own list of work. When the pass comes to new row k, some row above has put there the old row of k; the
-- pass puts the parts of that row at their places, which are below k (`start_filled`, `due`, `step_filled`). That row takes no
-- more rows than there are up to k (`turn`). A mark's loop is the last copy of it that the pass came by (`renamed_start`,
-- `renamed_step`). Assumes nothing.
use Rattle.std.specs.Prelude.{ℕ, suc, ◌-◌, ◌≤◌, ◌<◌, ◌≡◌, Bool, true, false, cond, ℤ, eqb, length, get_or, set, replicate}
use Rattle.std.proofs.Math.Path.{refl}
use Rattle.std.proofs.Common.{sym, subst, ◌∙◌, arith as linear, drop_of_length-le, get_or-set_same, get_or-set_other, eqb-true}
use mathlib.Core.List.{List, [], ◌∷◌}
use Rattle.std.proofs.Math.Decide.{ℕ_discrete}
use Rattle.std.proofs.Math.ListN.{length-set, get_or-eq_default}
use Rattle.std.proofs.lemmas.List.{length-replicate}
use Rattle.std.proofs.lemmas.Bool.{eqb-false}
use Rattle.script.specs.Rows.{Part, parts, rows, row}
use Rattle.theorems.specs.Clearing.{cleared_at}
use Rattle.theorems.specs.Links.{Link, here, there}
use Rattle.mending.specs.Copies.{origins, size}
use Rattle.mending.specs.NewTable.{place_of, renamed, part_places}
use Rattle.mending.specs.Reached.{targets}
use Rattle.mending.specs.Layout.{origin, Copied, copy, Spread, none, more, spots, places_are, whole_copied, extent}
use Rattle.mending.specs.NewLinks.{new_parts, copied_parts}
use Rattle.mending.specs.InnerCopies.{some_rows, NewLink, new_falls}
use Rattle.mending.specs.LinkedOnce.{some_link}
use Rattle.mending.specs.Mendable.{Mendable}
use Rattle.mending.specs.NextCopy.{hits, misses}
use Rattle.mending.specs.Everywhere.{here_at, came}

-- the rows rs put at the places ps
unfoldable pub put : List ℕ → List ℕ → List ℕ → List ℕ
put [] rs xs = xs
put (p ∷ ps) [] xs = xs
put (p ∷ ps) (r ∷ rs) xs = put ps rs (set xs p r)

module _ (t : List ℤ) where
  -- new row k, whose old row stands at place k, puts its parts
  abbrev pub put_parts : ℕ → List ℕ → List ℕ
  put_parts k xs = put (part_places t k (get_or xs k 0)) (targets (parts (row t (get_or xs k 0)))) xs

module _ (t : List ℤ) (ok : Mendable t) where
  abbrev total : ℕ
  total = length (origins t)

  -- ---- what is put is right

  abbrev Right : List ℕ → ℕ → Type 0
  Right xs j = get_or xs j 0 ≡ origin t j

  set_keeps : (xs : List ℕ) (p j : ℕ) → p < length xs → Right xs j → Right (set xs p (origin t p)) j
  set_keeps xs p j h e = go (ℕ_discrete j p)
    where
      go : Dec (j ≡ p) → Right (set xs p (origin t p)) j
      go (yes d) = subst (λ (x : ℕ). Right (set xs p (origin t p)) x) (sym d) (get_or-set_same xs p (origin t p) 0 h)
      go (no d) = get_or-set_other xs p j (origin t p) 0 d ∙ e

  pub put_length : (ps rs xs : List ℕ) → length (put ps rs xs) ≡ length xs
  unfolding put
  put_length [] rs xs = refl
  put_length (p ∷ ps) [] xs = refl
  put_length (p ∷ ps) (r ∷ rs) xs = put_length ps rs (set xs p r) ∙ length-set xs p r

  abbrev Put : {lo k : ℕ} {ps : List Part} → Spread t lo k ps → List ℕ → List ℕ
  Put {ps = ps} s xs = put (spots t s) (targets ps) xs

  copied_from : {lo j r : ℕ} → Copied t lo j r → (r ≡ origin t j) × (j < total)
  copied_from (copy s e h i) = (sym e, h)

  put_keeps : {lo k : ℕ} {ps : List Part} (s : Spread t lo k ps) (xs : List ℕ) → total ≤ length xs → (j : ℕ)
      → Right xs j
      → Right (Put s xs) j
  unfolding put spots targets
  put_keeps none xs h j e = e
  put_keeps (more {j = q} {p = p} c s) xs h j e =
      let d = copied_from c in
      put_keeps s (set xs q p.at) (omega (linear, length-set xs q p.at)) j
      (subst (λ (x : ℕ). Right (set xs q x) j) (sym d.0) (set_keeps xs q j (omega linear) e))

  put_hits : {lo k : ℕ} {ps : List Part} (s : Spread t lo k ps) (xs : List ℕ) → total ≤ length xs → {j i : ℕ}
      → Link j i (copied_parts t s) → Right (Put s xs) j
  unfolding put spots copied_parts targets
  put_hits (none {k = k}) xs h {j = j} {i = i} x8 = elim x8 [ ]
  put_hits (more {j = q} {p = p} c s) xs h {j} (here e) =
      let d = copied_from c in
      let l = length-set xs q p.at in
      put_keeps s (set xs q p.at) (omega linear) j
      (subst (λ (x : ℕ). Right (set xs q p.at) x) e (get_or-set_same xs q p.at 0 (omega linear) ∙ d.0))
  put_hits (more {j = q} {p = p} c s) xs h (there l) =
      put_hits s (set xs q p.at) (omega (linear, length-set xs q p.at)) l

  -- ---- the pass

  -- after the rows from n up: the places of their parts are right, and so is every place from the last on
  pub record Filled (n : ℕ) (xs : List ℕ) : Type 0 where
    pub long : total ≤ length xs
    pub last : (j : ℕ) → total ≤ suc j → Right xs j
    pub linked : (q j : ℕ) → n ≤ q → q < total → NewLink t ok q j → Right xs j

  -- a row whose turn has come, or is past, is right
  pub due : (n j : ℕ) {xs : List ℕ} → Filled n xs → n ≤ suc j → j < total → Right xs j
  due n j {xs} F a b = go (ℕ_discrete j (total - 1))
    where
      go : Dec (j ≡ total - 1) → Right xs j
      go (yes e) = F.last j (omega linear)
      go (no d) =
          let l = some_link t ok (whole_copied t ok.falls ok.filled) j (omega linear) (omega linear) in
          let q<total : l.0 < total = omega (linear, l.1) in
          let j<q = new_falls t ok l.0 q<total l.2 in
          F.linked l.0 j (omega linear) q<total l.2

  pub step_filled : (k : ℕ) (xs : List ℕ) → k < total → Filled (suc k) xs → Filled k (put_parts t k xs)
  step_filled k xs h F =
      let S = here_at t ok k h in
      let c = came t ok S.place in
      let e : get_or xs k 0 ≡ S.old = due (suc k) k F (omega linear) h ∙ c.0 in
      subst (λ (r : ℕ). Filled k (put (part_places t k r) (targets (parts (row t r))) xs)) (sym e)
      (go S.place.copied)
    where
      go : {lo r : ℕ} → Copied t lo k r → Filled k (put (part_places t k r) (targets (parts (row t r))) xs)
      go {lo} {r} (copy s o i b) =
          subst (λ (ps : List ℕ). Filled k (put ps (targets (parts (row t r))) xs)) (sym (places_are t ok.falls r s))
          (record {
            long = omega (linear, put_length (spots t s) (targets (parts (row t r))) xs, F.long);
            last = λ j l. put_keeps s xs F.long j (F.last j l);
            linked = λ q j a d l. own q j a d l (ℕ_discrete q k);
          })
        where
          own : (q j : ℕ) → k ≤ q → q < total → NewLink t ok q j → Dec (q ≡ k) → Right (Put s xs) j
          own q j a d l (yes x) =
              let l' = subst (λ (y : ℕ). NewLink t ok y j) x l in
              put_hits s xs F.long
              (subst (λ (ps : List Part). Link j l'.0 ps) (new_parts t ok r s o i b) l'.1)
          own q j a d l (no x) = put_keeps s xs F.long j (F.linked q j (omega linear) d l)

  -- at the start the script's row is at the last place, and zeros elsewhere
  pub start_filled : (room : ℕ) → total ≤ room → Filled total (set (replicate room 0) (total - 1) (rows t - 1))
  start_filled room h =
      let p = some_rows t ok in
      record {
        long = omega (linear, length-set empty (total - 1) (rows t - 1), wide);
        last = λ j l. go j l (ℕ_discrete j (total - 1));
        linked = λ q j a b l. absurd (omega linear);
      }
    where
      empty : List ℕ
      empty = replicate room 0

      wide : length empty ≡ room
      wide = length-replicate {A = ℕ} room 0

      go : (j : ℕ) → total ≤ suc j → Dec (j ≡ total - 1) → Right (set empty (total - 1) (rows t - 1)) j
      go j l (yes e) =
          let p = some_rows t ok in
          subst (λ (x : ℕ). Right (set empty (total - 1) (rows t - 1)) x) (sym e)
          (get_or-set_same empty (total - 1) (rows t - 1) 0 (omega (linear, wide)) ∙ (copied_from (whole_copied t ok.falls ok.filled)).0)
      go j l (no d) =
          get_or-set_other empty (total - 1) j (rows t - 1) 0 d ∙ cleared_at 0 room j ∙ sym (get_or-eq_default (origins t) 0 (omega linear))

  -- ---- the row whose turn has come

  pub record Turn (k : ℕ) : Type 0 where
    pub inside : origin t k < rows t
    pub small : size t (origin t k) ≤ suc k

  pub turn : (k : ℕ) → k < total → Turn k
  turn k h =
      let S = here_at t ok k h in
      let c = came t ok S.place in
      let x = extent t ok.falls S.place.copied in
      let p : (origin t k < rows t) × (size t (origin t k) ≤ suc k) =
      subst (λ (r : ℕ). (r < rows t) × (size t r ≤ suc k)) (sym c.0) (c.2, omega linear) in
      record { inside = p.0; small = p.1 }

  -- ---- marks

  -- no copy stands above the last row
  pub renamed_start : (j m : ℕ) → total ≤ suc j → renamed t j m ≡ 0
  unfolding renamed place_of
  renamed_start j m h = rw (drop_of_length-le (origins t) h)

  -- one row down: the row that the pass leaves becomes the last copy of its old row
  pub renamed_step : (j m : ℕ) → suc j < total
      → renamed t j m ≡ cond (eqb (origin t (suc j)) m) (suc j) (renamed t (suc j) m)
  renamed_step j m h = go (eqb (origin t (suc j)) m) refl
    where
      go : (b : Bool) → eqb (origin t (suc j)) m ≡ b → renamed t j m ≡ cond b (suc j) (renamed t (suc j) m)
      go true e = hits t ok j m h (eqb-true (origin t (suc j)) m e)
      go false e = misses t ok j m h (eqb-false (origin t (suc j)) m e)
