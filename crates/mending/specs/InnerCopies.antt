-- Inside a copy: every place in it ends a copy (`inner`), whose links go to the copies of parts (`link_within`), so the
-- links of a row inside a copy stay inside it (`stays`), and links fall (`new_falls`). By induction over the layout of
-- the run. Assumes nothing.
use Rattle.std.specs.Prelude.{ℕ, ◌≤◌, ◌<◌, ◌≡◌, List, ℤ, length}
use Rattle.std.proofs.Common.{sym, subst}
use native.Mathlib.Omega.{arith as linear}
use Rattle.std.proofs.Math.Decide.{ℕ_discrete}
use Rattle.script.specs.Rows.{Part, parts, row}
use Rattle.theorems.specs.Links.{Link, here, there, LinksTo}
use Rattle.mending.specs.Copies.{origins}
use Rattle.mending.specs.NewTable.{new_table}
use Rattle.mending.specs.Falling.{by_order}
use Rattle.mending.specs.Layout.{Copied, copy, Spread, none, more, copied_le, spread_le, whole_copied}
use Rattle.mending.specs.Mendable.{Mendable}
use Rattle.mending.specs.NewLinks.{copied_parts, new_parts}

module _ (t : List ℤ) (ok : Mendable t) where
  pub some_rows : 0 < length (origins t)
  some_rows = at_end (whole_copied t ok.falls ok.filled)
    where
      at_end : {lo k r : ℕ} → Copied t lo k r → 0 < length (origins t)
      at_end (copy s e h i) = omega linear

  -- ---- inside a copy

  -- a copy that ends at q and starts no lower than lo
  pub record Inner (lo q : ℕ) : Type 0 where
    pub start : ℕ
    pub above : lo ≤ start
    pub old : ℕ
    pub copied : Copied t start q old

  weaken : {lo hi q : ℕ} → lo ≤ hi → Inner hi q → Inner lo q
  weaken l i = record { start = i.start; above = omega (linear, i.above); old = i.old; copied = i.copied }

  mutual
    pub inner : {lo k r : ℕ} → Copied t lo k r → (q : ℕ) → lo ≤ q → q ≤ k → Inner lo q
    inner {lo} {k} {r} (copy s e h i) q a b = last (ℕ_discrete q k) (λ l. spread_inner s q a l)
      where
        last : Dec (q ≡ k) → (q < k → Inner lo q) → Inner lo q
        last (yes d) f =
            subst (λ (x : ℕ). Inner lo x) (sym d) (record { start = lo; above = omega linear; old = r; copied = copy s e h i })
        last (no d) f = f (omega linear)

    spread_inner : {lo k : ℕ} {ps : List Part} → Spread t lo k ps → (q : ℕ) → lo ≤ q → q < k → Inner lo q
    spread_inner none q a b = absurd (omega linear)
    spread_inner {lo} {k} (more {j = j} c s) q a b =
        by_order q j (λ l. inner c q a l) (λ l. weaken (let x = copied_le t c in omega linear) (spread_inner s q l b))

  pub inner_at : (q : ℕ) → q < length (origins t) → Inner 0 q
  inner_at q h = inner (whole_copied t ok.falls ok.filled) q (omega linear) (omega linear)

  -- ---- links

  -- the links of a copy go to the copies of parts: from the start of the copy up, below its own row
  pub link_within : {lo k : ℕ} {ps : List Part} (s : Spread t lo k ps) {j i : ℕ} → Link j i (copied_parts t s)
      → (lo ≤ j) × (j < k)
  unfolding copied_parts
  link_within (none {k = k}) {j = j} {i = i} x4 = elim x4 [ ]
  link_within (more c s) (here e) =
      let a = copied_le t c in
      let b = spread_le t s in
      (omega linear, omega linear)
  link_within (more c s) (there l) =
      let a = copied_le t c in
      let b = link_within s l in
      (omega linear, omega linear)

  abbrev pub NewLink : ℕ → ℕ → Type 0
  NewLink q j = LinksTo (parts (row (new_table t) q)) j

  copy_within : {lo k r : ℕ} → Copied t lo k r → {j : ℕ} → NewLink k j → (lo ≤ j) × (j < k)
  copy_within {lo} {k} {r} (copy s e h i) {j} n =
      link_within s (subst (λ (l : List Part). Link j n.0 l) (new_parts t ok r s e h i) n.1)

  inner_within : {lo q j : ℕ} → Inner lo q → NewLink q j → (lo ≤ j) × (j < q)
  inner_within i n = let a = copy_within i.copied n in (omega (linear, i.above), a.1)

  -- the links of a row inside a copy stay inside it
  pub stays : {lo k r : ℕ} → Copied t lo k r → (q : ℕ) → lo ≤ q → q ≤ k → {j : ℕ} → NewLink q j → (lo ≤ j) × (j < q)
  stays c q a b n = inner_within (inner c q a b) n

  pub spread_stays : {lo k : ℕ} {ps : List Part} → Spread t lo k ps → (q : ℕ) → lo ≤ q → q < k → {j : ℕ} → NewLink q j
      → (lo ≤ j) × (j < q)
  spread_stays s q a b n = inner_within (spread_inner s q a b) n

  pub new_falls : (q : ℕ) → q < length (origins t) → {j : ℕ} → NewLink q j → j < q
  new_falls q h n = (stays (whole_copied t ok.falls ok.filled) q (omega linear) (omega linear) n).1
