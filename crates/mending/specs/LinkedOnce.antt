-- In the new table each row but the last is linked (`some_link`), and none twice (`one_link` by two rows, `one_field`
-- by two fields): exactly once (`linked_once`).
-- Argument, on the layout of the run: the links of a row inside a copy stay inside it (`InnerCopies.stays`), and the
-- copies of a row's parts do not overlap. Assumes nothing.
use Rattle.std.specs.Prelude.{ℕ, zero, suc, ◌≤◌, ◌<◌, ◌≡◌, ◌⊎◌, List, ◌∷◌, ℤ, length, take}
use Rattle.std.proofs.Common.{sym, subst, inl, inr, ⊎_elim}
use native.Mathlib.Omega.{arith as linear}
use Rattle.std.proofs.Math.Decide.{ℕ_discrete}
use Rattle.script.specs.Rows.{Part, parts, rows, row}
use Rattle.theorems.specs.Links.{Link, here, there, LinksTo}
use Rattle.mending.specs.Copies.{origins}
use Rattle.mending.specs.NewTable.{new_table}
use Rattle.mending.specs.Falling.{by_order}
use Rattle.mending.specs.Layout.{Copied, copy, Spread, none, more, spread_le, whole_copied}
use Rattle.mending.specs.Mendable.{Mendable}
use Rattle.mending.specs.NewRows.{new_rows}
use Rattle.mending.specs.NewLinks.{copied_parts, new_parts}
use Rattle.mending.specs.InnerCopies.{inner_at, link_within, NewLink, stays, spread_stays}

-- one link of a table goes to row j
pub record LinkedOnce (u : List ℤ) (j : ℕ) : Type 0 where
  pub by : ℕ
  pub field : ℕ
  pub within : by < rows u
  pub link : Link j field (parts (row u by))
  pub only : (q i : ℕ) → q < rows u → Link j i (parts (row u q)) → (q ≡ by) × (i ≡ field)

link_take : {k i : ℕ} {ps : List Part} (n : ℕ) → Link k i ps → i < n → Link k i (take n ps)
link_take zero l h = absurd (omega linear)
link_take (suc n) (here e) h = here e
link_take (suc n) (there l) h = there (link_take n l (omega linear))

module _ (t : List ℤ) (ok : Mendable t) where
  -- ---- no row is linked twice

  -- by the copy itself and by a row before it
  not_both : {lo k : ℕ} {ps : List Part} (s : Spread t lo k ps) (q : ℕ) → lo ≤ q → q < k → {j i : ℕ} → NewLink t ok q j
      → Link j i (copied_parts t s) → ⊥
  unfolding copied_parts
  not_both (none {k = k}) q a b {j = j} {i = i} n x16 = elim x16 [ ]
  not_both (more {j = m} c s) q a b n (here e) =
      by_order q m
      (λ l. let x = stays t ok c q a l n in omega linear)
      (λ l. let x = spread_stays t ok s q l b n in omega linear)
  not_both (more {j = m} c s) q a b n (there d) =
      by_order q m
      (λ l.
      let x = stays t ok c q a l n in
      let y = link_within t ok s d in
      omega linear)
      (λ l. not_both s q l b n d)

  mutual
    pub one_link : {lo k r : ℕ} → Copied t lo k r → (q q' : ℕ) → lo ≤ q → q < q' → q' ≤ k → {j : ℕ} → NewLink t ok q j
        → NewLink t ok q' j → ⊥
    one_link {lo} {k} {r} (copy s e h i) q q' a b c {j} n n' =
        last (ℕ_discrete q' k)
        (λ l. spread_one s q q' a b l n n')
        (λ m. not_both s q a (omega linear) n (subst (λ (l : List Part). Link j m.0 l) (new_parts t ok r s e h i) m.1))
      where
        last : Dec (q' ≡ k) → (q' < k → ⊥) → (NewLink t ok k j → ⊥) → ⊥
        last (yes d) f g = g (subst (λ (x : ℕ). NewLink t ok x j) d n')
        last (no d) f g = f (omega linear)

    spread_one : {lo k : ℕ} {ps : List Part} → Spread t lo k ps → (q q' : ℕ) → lo ≤ q → q < q' → q' < k → {j : ℕ}
        → NewLink t ok q j
        → NewLink t ok q' j → ⊥
    spread_one none q q' a b c n n' = omega linear
    spread_one (more {j = m} c s) q q' a b d n n' =
        by_order q' m (λ l. one_link c q q' a b l n n') (λ l.
        by_order q m
        (λ x.
        let y = stays t ok c q a x n in
        let z = spread_stays t ok s q' l d n' in
        omega linear)
        (λ x. spread_one s q q' x b d n n'))

  -- by two fields of one row
  pub one_field : {lo k : ℕ} {ps : List Part} (s : Spread t lo k ps) {j i i' : ℕ} → Link j i (copied_parts t s)
      → Link j i' (take i (copied_parts t s)) → ⊥
  unfolding copied_parts
  one_field (none {k = k}) {j = j} {i = i} x8 _ = elim x8 [ ]
  one_field (more {lo = lo} {j = j} {k = k} {p = p} {ps = ps} c s) (here _) x19 = elim x19 [ ]
  one_field (more c s) (there l) (here e) = let a = link_within t ok s l in omega linear
  one_field (more c s) (there l) (there m) = one_field s l m

  -- ---- every row but the last is linked

  abbrev LinkedUpTo : ℕ → ℕ → Type 0
  LinkedUpTo k j = (q : ℕ) × (q < k) × NewLink t ok q j

  mutual
    unfolding copied_parts

    pub some_link : {lo k r : ℕ} → Copied t lo k r → (j : ℕ) → lo ≤ j → j < k → LinkedUpTo (suc k) j
    some_link {lo} {k} {r} (copy s e h i) j a b =
        ⊎_elim (λ l. (
          k,
          omega linear,
          (
            l.0,
            subst (λ (x : List Part). Link j l.0 x)
                (sym (new_parts t ok r s e h i)) l.1,
          ),
        ))
        (λ l. (l.0, omega (linear, l.1), l.2)) (spread_some s j a b)

    spread_some : {lo k : ℕ} {ps : List Part} (s : Spread t lo k ps) (j : ℕ) → lo ≤ j → j < k
        → LinksTo (copied_parts t s) j ⊎ LinkedUpTo k j
    spread_some none j a b = absurd (omega linear)
    spread_some {lo} {k} (more {j = m} {p = p} c s) j a b =
        let up : suc m ≤ k = spread_le t s in
        by_order j m
        (λ l. first (ℕ_discrete m j) (λ d. let x : j < m = omega linear in let u = some_link c j a
        x in (u.0, omega (linear, u.1), u.2)))
        (λ l. ⊎_elim (λ d. inl (suc d.0, there d.1)) inr (spread_some s j l b))
      where
        first : Dec (m ≡ j) → ((m ≡ j → ⊥) → LinkedUpTo k j)
            → LinksTo (record { at = m; sort = p.sort } ∷ copied_parts t s) j ⊎ LinkedUpTo k j
        first (yes e) f = inl (0, here e)
        first (no d) f = inr (f d)

  -- ---- exactly once

  same_field : {q : ℕ} → q < length (origins t) → {j i i' : ℕ} → Link j i (parts (row (new_table t) q))
      → Link j i' (parts (row (new_table t) q))
      → i ≡ i'
  same_field {q} h {j} {i} {i'} l l' = go (inner_at t ok q h).copied
    where
      go : {lo r : ℕ} → Copied t lo q r → i ≡ i'
      go {lo} {r} (copy s e a b) =
          let m = subst (λ (ps : List Part). Link j i ps) (new_parts t ok r s e a b) l in
          let m' = subst (λ (ps : List Part). Link j i' ps) (new_parts t ok r s e a b) l' in
          by_order (suc i) i'
          (λ x. absurd (one_field s m' (link_take i' m x)))
          (λ x. by_order (suc i') i (λ y. absurd (one_field s m (link_take i m' y))) (λ y. omega linear))

  pub linked_once : (j : ℕ) → suc j < length (origins t) → LinkedOnce (new_table t) j
  linked_once j h =
      let e = new_rows t in
      let whole = whole_copied t ok.falls ok.filled in
      let L = some_link whole j (omega linear) (omega linear) in
      let within : L.0 < length (origins t) = omega (linear, L.1) in
      record {
        by = L.0;
        field = L.2.0;
        within = omega linear;
        link = L.2.1;
        only = λ q i a l.
            let same : q ≡ L.0 =
            by_order (suc q) L.0
            (λ x. absurd (one_link whole q L.0 (omega linear) x (omega linear) (i, l) L.2))
            (λ x. by_order (suc L.0) q (λ y. absurd
            (one_link whole L.0 q (omega linear) y (omega linear) L.2 (i, l))) (λ y. omega linear)) in
            (same, same_field within (subst (λ (x : ℕ). Link j i (parts (row (new_table t) x))) same l) L.2.1);
      }
