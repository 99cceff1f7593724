-- "already in that order", of a table's own links: `Laid lo k` says that rows lo to k are row k with its parts right
-- before it, left to right, each laid out likewise. A table is in that order (`InOrder`) exactly where its rows would
-- be copied in the order in which they stand (`order_run`, `run_order`); the new table is (`new_in_order`), so mending
-- once more changes nothing.
-- By induction over the layout. Assumes nothing.
use Prim.Native.Nat.{ℕ, zero, suc, ◌+◌, ◌-◌, ◌≤◌, ◌<◌}
use Rattle.std.specs.Prelude.{◌≡◌, refl, List, [], ◌∷◌, ◌++◌, ℤ, length, get_or}
use Rattle.std.proofs.Common.{sym, subst, ◌∙◌, zero-add}
use Rattle.std.proofs.Math.Path.{ap}
use native.Mathlib.Omega.{arith as linear}
use Rattle.script.specs.Rows.{Part, parts, rows, row}
use Rattle.mending.specs.Copies.{each, copies, origins}
use Rattle.mending.specs.NewTable.{new_table}
use Rattle.mending.specs.Falling.{Falls}
use Rattle.mending.specs.Layout.{origin, Copied, copy, Spread, whole_copied}
use Rattle.mending.specs.Layout as Layout
use Rattle.mending.specs.Mendable.{Mendable}
use Rattle.mending.specs.NewRows.{new_rows}
use Rattle.mending.specs.NewLinks.{new_parts, copied_parts}

module _ (t : List ℤ) where
  mutual
    -- rows lo to k are row k and what is below it, in order
    pub data Laid : ℕ → ℕ → Type 0 where
      laid : {lo k : ℕ} → PartsLaid lo k (parts (row t k)) → Laid lo k

    -- the rows from lo up to k are the parts ps and what is below them, in order
    pub data PartsLaid : ℕ → ℕ → List Part → Type 0 where
      none : {k : ℕ} → PartsLaid k k []
      more : {lo k : ℕ} {p : Part} {ps : List Part} → Laid lo p.at → PartsLaid (suc p.at) k ps
          → PartsLaid lo k (p ∷ ps)

  -- "from the last row down, parts left to right before their parent", each row once
  abbrev pub InOrder : Type 0
  InOrder = Laid 0 (rows t - 1)

-- ---- n numbers from lo up

unfoldable pub run : ℕ → ℕ → List ℕ
run lo zero = []
run lo (suc n) = lo ∷ run (suc lo) n

run_append : (lo n m : ℕ) → run lo n ++ run (lo + n) m ≡ run lo (n + m)
unfolding run
run_append lo zero m =
    let a : lo + 0 ≡ lo = omega linear in
    let b : 0 + m ≡ m = omega linear in
    rw (a, b)
run_append lo (suc n) m =
    let a : lo + suc n ≡ suc lo + n = omega linear in
    let b : suc n + m ≡ suc (n + m) = omega linear in
    rw (a, b, run, run_append (suc lo) n m)

pub run_length : (lo n : ℕ) → length (run lo n) ≡ n
unfolding run
run_length lo zero = refl
run_length lo (suc n) = ap suc (run_length (suc lo) n)

pub run_at : (lo n k : ℕ) → k < n → get_or (run lo n) k 0 ≡ lo + k
unfolding run
run_at lo zero k h = absurd (omega linear)
run_at lo (suc n) zero h = omega linear
run_at lo (suc n) (suc k) h = let a = run_at (suc lo) n k (omega linear) in omega linear

-- ---- the order, both ways

module _ (t : List ℤ) where
  mutual
    laid_le : {lo k : ℕ} → Laid t lo k → lo ≤ k
    laid_le (laid s) = parts_le s

    parts_le : {lo k : ℕ} {ps : List Part} → PartsLaid t lo k ps → lo ≤ k
    parts_le none = omega linear
    parts_le (more c s) =
        let a = laid_le c in
        let b = parts_le s in
        omega linear

  -- the copies of a row that is laid out, under a bound on the depth
  abbrev Runs : ℕ → Type 0
  Runs n = (lo k : ℕ) → Laid t lo k → k < n → copies t n k ≡ run lo (suc k - lo)

  parts_run : (n : ℕ) → Runs n → {lo k : ℕ} {ps : List Part} → PartsLaid t lo k ps → k ≤ n
      → each (copies t n) ps ≡ run lo (k - lo)
  unfolding each run
  parts_run n f (none {k = k}) h = let a : k - k ≡ 0 = omega linear in rw (a, run)
  parts_run n f (more {lo = lo} {k = k} {p = p} c s) h =
      let j = p.at in
      let a = laid_le c in
      let b = parts_le s in
      let x : suc j ≡ lo + (suc j - lo) = omega linear in
      let y : (suc j - lo) + (k - suc j) ≡ k - lo = omega linear in
      rw (f lo j c (omega linear), parts_run n f s h)
      (ap (λ (z : ℕ). run lo (suc j - lo) ++ run z (k - suc j)) x ∙ run_append lo (suc j - lo) (k - suc j)
      ∙ ap (run lo) y)

  laid_run : (n : ℕ) → Runs n
  unfolding copies run
  laid_run zero lo k c h = absurd (omega linear)
  laid_run (suc n) lo k (laid s) h =
      let l = parts_le s in
      let x : lo + (k - lo) ≡ k = omega linear in
      let y : (k - lo) + 1 ≡ suc k - lo = omega linear in
      rw (parts_run n (laid_run n) s (omega linear))
      (ap (λ (z : ℕ). run lo (k - lo) ++ (z ∷ [])) (sym x) ∙ run_append lo (k - lo) 1 ∙ ap (run lo) y)

  -- in that order, the rows would be copied as they stand
  pub order_run : 0 < rows t → InOrder t → origins t ≡ run 0 (rows t)
  unfolding origins
  order_run h o =
      let x : suc (rows t - 1) - 0 ≡ rows t = omega linear in
      laid_run (rows t) 0 (rows t - 1) o (omega linear) ∙ ap (run 0) x

  -- and the other way
  module _ (falls : Falls t) (filled : 0 < rows t) (e : origins t ≡ run 0 (rows t)) where
    itself : (k : ℕ) → k < length (origins t) → origin t k ≡ k
    itself k h =
        let n : length (origins t) ≡ rows t = ap length e ∙ run_length 0 (rows t) in
        ap (λ (l : List ℕ). get_or l k 0) e ∙ run_at 0 (rows t) k (omega linear) ∙ zero-add k

    mutual
      copied_laid : {lo k r : ℕ} → Copied t lo k r → Laid t lo k
      copied_laid {lo} {k} (copy s o h i) =
          laid (subst (λ (r : ℕ). PartsLaid t lo k (parts (row t r))) (sym o ∙ itself k h) (spread_laid s))

      spread_laid : {lo k : ℕ} {ps : List Part} → Spread t lo k ps → PartsLaid t lo k ps
      spread_laid Layout.none = none
      spread_laid (Layout.more {lo = lo} {j = j} {k = k} {p = p} {ps = ps} c s) =
          let same : j ≡ p.at = place c in
          more (subst (λ (x : ℕ). Laid t lo x) same (copied_laid c))
          (subst (λ (x : ℕ). PartsLaid t (suc x) k ps) same (spread_laid s))

      place : {lo k r : ℕ} → Copied t lo k r → k ≡ r
      place {lo} {k} (copy s o h i) = sym (itself k h) ∙ o

    pub run_order : InOrder t
    run_order =
        let n : length (origins t) - 1 ≡ rows t - 1 =
        ap (λ (l : List ℕ). length l - 1) e ∙ ap (λ (x : ℕ). x - 1) (run_length 0 (rows t)) in
        subst (λ (k : ℕ). Laid t 0 k) n (copied_laid (whole_copied t falls filled))

-- ---- the new table

module _ (t : List ℤ) (ok : Mendable t) where
  abbrev u : List ℤ
  u = new_table t

  mutual
    unfolding copied_parts

    new_laid : {lo k r : ℕ} → Copied t lo k r → Laid u lo k
    new_laid {lo} {k} {r} (copy s e h i) =
        laid (subst (λ (ps : List Part). PartsLaid u lo k ps) (sym (new_parts t ok r s e h i)) (new_spread s))

    new_spread : {lo k : ℕ} {ps : List Part} (s : Spread t lo k ps) → PartsLaid u lo k (copied_parts t s)
    new_spread Layout.none = none
    new_spread (Layout.more c s) = more (new_laid c) (new_spread s)

  pub new_in_order : InOrder u
  new_in_order =
      subst (λ (n : ℕ). Laid u 0 (n - 1)) (sym (new_rows t)) (new_laid (whole_copied t ok.falls ok.filled))
