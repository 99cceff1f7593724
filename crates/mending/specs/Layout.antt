-- Where the copies stand. `origin t k` is the old row of new row k. `Copied lo k r`: in the run of old rows, the places
-- lo to k are one copy of row r with all below it, its own row last; `Spread lo k ps`: the places from lo up to k are
-- copies of the parts ps, one after the other.
-- The run has this shape (`whole_copied`), the extent of a copy is its size (`extent`), and the places of the parts of
-- a copy are those that `NewTable` gives them (`places_are`). Assumes nothing.
use Prim.Native.Nat.{ℕ, zero, suc, ◌+◌, ◌-◌, ◌≤◌, ◌<◌}
use Rattle.std.specs.Prelude.{◌≡◌, ℤ, T, ltb}
use Rattle.std.proofs.Math.Path.{refl, ap, subst}
use Rattle.std.proofs.Common.{sym, ◌∙◌, ltb→lt}
use mathlib.Core.List.{List, [], ◌∷◌, ◌++◌, append_assoc, append-nil}
use native.Mathlib.Omega.{arith as linear}
use Rattle.std.proofs.Math.ListN.{length, get_or, length-append}
use Rattle.std.proofs.Math.Seq.{get_or_at}
use Rattle.script.specs.Rows.{Part, parts, rows, row}
use Rattle.script.specs.Refusals.{all_below}
use Rattle.theorems.specs.Truths.{both}
use Rattle.mending.specs.Copies.{each, part_sum, copies, origins, size}
use Rattle.mending.specs.NewTable.{places, part_places}
use Rattle.mending.specs.Falling.{Falls}
use Rattle.mending.specs.Sizes.{size_step}

-- the old row of new row k
abbrev pub origin : List ℤ → ℕ → ℕ
origin t k = get_or (origins t) k 0

module _ (t : List ℤ) where
  mutual
    pub data Copied : ℕ → ℕ → ℕ → Type 0 where
      copy : {lo k r : ℕ} → Spread lo k (parts (row t r)) → origin t k ≡ r → k < length (origins t) → r < rows t
          → Copied lo k r

    pub data Spread : ℕ → ℕ → List Part → Type 0 where
      none : {k : ℕ} → Spread k k []
      more : {lo j k : ℕ} {p : Part} {ps : List Part} → Copied lo j p.at → Spread (suc j) k ps → Spread lo k (p ∷ ps)

  -- ---- copies stand one after the other

  mutual
    pub copied_le : {lo k r : ℕ} → Copied lo k r → lo ≤ k
    copied_le (copy s e h i) = spread_le s

    pub spread_le : {lo k : ℕ} {ps : List Part} → Spread lo k ps → lo ≤ k
    spread_le none = omega linear
    spread_le (more c s) =
        let a = copied_le c in
        let b = spread_le s in
        omega linear

  -- the places of the last rows
  unfoldable pub spots : {lo k : ℕ} {ps : List Part} → Spread lo k ps → List ℕ
  spots none = []
  spots (more {j = j} c s) = j ∷ spots s

module _ (t : List ℤ) (falls : Falls t) where
  -- ---- extents and places

  mutual
    unfolding part_sum

    pub extent : {lo k r : ℕ} → Copied t lo k r → suc k ≡ lo + size t r
    extent {lo} {k} {r} (copy s e h i) =
        let a = spread_extent s in
        let b = size_step t falls r i in
        omega linear

    spread_extent : {lo k : ℕ} {ps : List Part} → Spread t lo k ps → k ≡ lo + part_sum (size t) ps
    spread_extent none = omega linear
    spread_extent (more c s) =
        let a = extent c in
        let b = spread_extent s in
        omega linear

  spots_are : {lo k : ℕ} {ps : List Part} (s : Spread t lo k ps) → places (size t) lo ps ≡ spots t s
  unfolding spots places
  spots_are none = refl
  spots_are (more {lo = lo} {j = j} {p = p} {ps = ps} c s) =
      let a = extent c in
      let b : lo + size t p.at - 1 ≡ j = omega linear in
      let d : lo + size t p.at ≡ suc j = omega linear in
      rw (b, d, spots_are s)

  pub places_are : (r : ℕ) {lo k : ℕ} (s : Spread t lo k (parts (row t r))) → part_places t k r ≡ spots t s
  unfolding part_places
  places_are r {lo} {k} s =
      let a = spread_extent s in
      let b : k - part_sum (size t) (parts (row t r)) ≡ lo = omega linear in
      rw b (spots_are s)

  -- ---- the run has this shape

  -- what `copies` gives at n, where it stands in the run after `pre`
  abbrev Builds : ℕ → ℕ → Type 0
  Builds n r = (pre post : List ℕ) → origins t ≡ pre ++ (copies t n r ++ post)
      → (k : ℕ) × (suc k ≡ length pre + length (copies t n r)) × Copied t (length pre) k r

  spread_built : (n r : ℕ) (ps : List Part) → T (all_below t r ps) → ((k : ℕ) → k < r → Builds n k)
      → (pre post : List ℕ)
      → origins t ≡ pre ++ (each (copies t n) ps ++ post)
      → Spread t (length pre) (length pre + length (each (copies t n) ps)) ps
  unfolding each
  spread_built n r [] h f pre post e = subst (λ k. Spread t (length pre) k []) (plus_zero (length pre)) none
    where
      plus_zero : (n : ℕ) → n ≡ n + 0
      plus_zero n = omega linear
  spread_built n r (p ∷ ps) h f pre post e =
      let b = both (ltb p.at r) (all_below t r ps) h in
      let C = copies t n p.at in
      let D = each (copies t n) ps in
      let first =
      f p.at (ltb→lt p.at r b.0) pre (D ++ post) (e ∙ ap (λ (l : List ℕ). pre ++ l) (append_assoc C D post)) in
      let later = spread_built n r ps b.1 f (pre ++ C) post (e ∙ regroup pre C D post) in
      let start : length (pre ++ C) ≡ suc first.0 = omega (linear, length-append pre C, first.1) in
      let end : length (pre ++ C) + length D ≡ length pre + length (C ++ D) =
      omega (linear, length-append pre C, length-append C D) in
      more first.2
      (subst (λ a. Spread t a (length pre + length (C ++ D)) ps) start
      (subst (λ a. Spread t (length (pre ++ C)) a ps) end later))
    where
      regroup : (a b c d : List ℕ) → a ++ ((b ++ c) ++ d) ≡ (a ++ b) ++ (c ++ d)
      regroup a b c d = simp append_assoc

  built : (n r : ℕ) → r < n → r < rows t → Builds n r
  unfolding copies
  built zero r h i pre post e = absurd (omega linear)
  built (suc n) r h i pre post e =
      let C = each (copies t n) (parts (row t r)) in
      let s =
      spread_built n r (parts (row t r)) (falls r i) (λ k l. built n k (omega linear) (omega linear)) pre
      ((r ∷ []) ++ post)
      (e ∙ ap (λ (l : List ℕ). pre ++ l) (append_assoc C (r ∷ []) post)) in
      let whole : origins t ≡ (pre ++ C) ++ (r ∷ post) = e ∙ regroup pre C r post in
      let there : origin t (length pre + length C) ≡ r =
      ap (λ (l : List ℕ). get_or l (length pre + length C) 0) whole
      ∙ get_or_at (pre ++ C) r post 0 (length pre + length C) (length-append pre C) in
      let long : length (origins t) ≡ length (pre ++ C) + length (r ∷ post) =
      ap length whole ∙ length-append (pre ++ C) (r ∷ post) in (
        length pre + length C,
        omega (linear, length-append C (r ∷ [])),
        copy s there (omega (linear, length-append pre C)) i,
      )
    where
      regroup : (a b : List ℕ) (x : ℕ) (d : List ℕ) → a ++ ((b ++ (x ∷ [])) ++ d) ≡ (a ++ b) ++ (x ∷ d)
      regroup a b x d = simp append_assoc

  -- the whole run is one copy of the script, up to its last place
  pub whole_copied : 0 < rows t → Copied t 0 (length (origins t) - 1) (rows t - 1)
  unfolding origins
  whole_copied h =
      let b =
      built (rows t) (rows t - 1) (omega linear) (omega linear) [] []
      (sym (append-nil (copies t (rows t) (rows t - 1)))) in
      let e : b.0 ≡ length (origins t) - 1 = omega (linear, b.1) in
      subst (λ k. Copied t 0 k (rows t - 1)) e b.2
