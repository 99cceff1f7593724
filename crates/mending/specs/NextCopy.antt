-- The next copy of a loop above a new row, to which `NewTable.renamed` takes its mark: one row up (`hits`, `misses`),
-- and over rows that came from rows below the loop (`skips`). What stands in a copy of row r came from rows up to r
-- (`copied_old`). Assumes nothing.
use Rattle.std.specs.Prelude.{ℕ, zero, suc, ◌+◌, ◌≤◌, ◌<◌, ◌≡◌, List, ℤ, T, ltb, length}
use Rattle.std.proofs.Common.{sym, ap, ◌∙◌, arith as linear, ltb→lt, drop-cons}
use Rattle.std.proofs.Math.Decide.{ℕ_discrete}
use borrow.Author.Tests.{eq-eqb, ne_eqb}
use Rattle.script.specs.Rows.{Part}
use Rattle.script.specs.Refusals.{all_below}
use Rattle.theorems.specs.Truths.{both}
use Rattle.mending.specs.Copies.{origins}
use Rattle.mending.specs.NewTable.{place_of, renamed}
use Rattle.mending.specs.Falling.{by_order}
use Rattle.mending.specs.Layout.{origin, Copied, copy, Spread, none, more}
use Rattle.mending.specs.Mendable.{Mendable}

module _ (t : List ℤ) (ok : Mendable t) where
  abbrev total : ℕ
  total = length (origins t)

  -- ---- what a copy came from

  mutual
    pub copied_old : {lo k r : ℕ} → Copied t lo k r → (q : ℕ) → lo ≤ q → q ≤ k → origin t q ≤ r
    copied_old {lo} {k} {r} (copy s e h i) q a b = last (ℕ_discrete q k) (λ l. spread_old s r (ok.falls r i) q a l)
      where
        last : Dec (q ≡ k) → (q < k → origin t q < r) → origin t q ≤ r
        last (yes d) f = let x : origin t q ≡ origin t k = ap (origin t) d in omega linear
        last (no d) f = let x = f (omega linear) in omega linear

    spread_old : {lo k : ℕ} {ps : List Part} → Spread t lo k ps → (r : ℕ) → T (all_below t r ps) → (q : ℕ) → lo ≤ q
        → q < k
        → origin t q < r
    spread_old none r h q a b = absurd (omega linear)
    spread_old (more {j = j} {p = p} {ps = ps} c s) r h q a b =
        let d = both (ltb p.at r) (all_below t r ps) h in
        let e = ltb→lt p.at r d.0 in
        by_order q j (λ l. let x = copied_old c q a l in omega linear) (λ l. spread_old s r d.1 q l b)

  -- ---- the next copy above

  -- for a pass from the last row down: the last copy of m that was written
  pub hits : (j m : ℕ) → suc j < total → origin t (suc j) ≡ m → renamed t j m ≡ suc j
  unfolding renamed place_of
  hits j m h e = rw (drop-cons (origins t) (suc j) 0 h, place_of, eq-eqb m (origin t (suc j)) (sym e))

  pub misses : (j m : ℕ) → suc j < total → (origin t (suc j) ≡ m → ⊥) → renamed t j m ≡ renamed t (suc j) m
  unfolding renamed place_of
  misses j m h e = rw (drop-cons (origins t) (suc j) 0 h, place_of, ne_eqb m (origin t (suc j)) (λ d. e (sym d)))

  -- d rows up
  pub skips : (d j k m : ℕ) → j + d ≡ k → k < total → ((q : ℕ) → j < q → q ≤ k → origin t q < m)
      → renamed t j m ≡ renamed t k m
  skips zero j k m e h f = ap (λ (x : ℕ). renamed t x m) (plus_zero e)
    where
      plus_zero : j + 0 ≡ k → j ≡ k
      plus_zero e = omega linear
  skips (suc d) j k m e h f =
      misses j m (omega linear) (λ x. let y = f (suc j) (omega linear) (omega linear) in omega linear)
      ∙ skips d (suc j) k m (omega linear) h (λ q a b. f q (omega linear) b)
