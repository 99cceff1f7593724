-- The new table passes 1 to 7 of the check (`passes`): each of its rows has a known kind, numbers in range, links that
-- fall and go to rows of the right sort; no row is linked twice, the last is a script, and every other row is linked.
-- Test by test, from `KeptFields` and `LinkedOnce`. Assumes nothing.
use Rattle.std.specs.Prelude.{ℕ, suc, ◌*◌, ◌%◌, ◌-◌, ◌≤◌, ◌<◌, ◌⊎◌, Bool, cond, not, ◌&&◌, ℤ, eqb, ltb, drop, take}
use Rattle.std.proofs.Math.Path.{◌≡◌, refl, subst}
use Rattle.std.proofs.Common.{sym, ap, ◌∙◌, inl, inr, arith as linear, lt→ltb, eq-eqb, ne_eqb, le-ltb}
use mathlib.Core.List.{List, [], ◌∷◌}
use Rattle.std.proofs.Math.Bool.{true, false}
use Rattle.std.proofs.Math.Dec.{T}
use Rattle.std.proofs.Math.ListN.{length, length-drop}
use Rattle.script.specs.declared.Sort.{Sort}
use Rattle.script.specs.declared.Sort.TheVariants.{Script, Unknown}
use Rattle.script.specs.Rows.{Field, Part, fields, parts, sort_of, rows, word, row}
use Rattle.script.specs.Refusals.{accepted, same_sort, bad_length, all_zero, in_range, unused_zero, all_below, well_sorted, all_new, linked, row_fault, row_fault_within, unlinked_fault, length_test, row_test, row_test_within, script_test, unlinked_test}
use Rattle.theorems.specs.Truths.{both, pair}
use Rattle.theorems.specs.Tests.{sort_iff}
use Rattle.theorems.specs.Lowest.{lowest_accepts}
use Rattle.theorems.specs.Links.{Link, here, there, LinksTo, LinkedBelow, Shared, shared_iff, linked_iff}
use Rattle.mending.specs.Copies.{origins}
use Rattle.mending.specs.NewTable.{renewed, place_of, renamed, part_places, new_word, new_table}
use Rattle.mending.specs.Layout.{origin, Copied, copy, Spread, none, more, whole_copied}
use Rattle.mending.specs.Mendable.{Mendable}
use Rattle.mending.specs.Renew.{renew, renew_fields, fields_renewed, sort_renewed}
use Rattle.mending.specs.NewRows.{new_rows, new_length, first_at, second_at, third_at}
use Rattle.mending.specs.NewLinks.{copied_parts, row_is, new_parts}
use Rattle.mending.specs.InnerCopies.{some_rows, inner_at, new_falls}
use Rattle.mending.specs.LinkedOnce.{one_link, one_field, some_link}
use Rattle.mending.specs.KeptFields.{place_below, rest_kept, same_length, three, fields_count, still_ranged}

-- a table passes 1 to 7 of the check
pub record Passes (u : List ℤ) : Type 0 where
  pub length : length_test u ≡ accepted
  pub row : row_test u ≡ accepted
  pub script : script_test u ≡ accepted
  pub unlinked : unlinked_test u ≡ accepted

module _ (t : List ℤ) (ok : Mendable t) where
  abbrev total : ℕ
  total = length (origins t)

  abbrev Whole : Type 0
  Whole = Copied t 0 (total - 1) (rows t - 1)

  whole : Whole
  whole = whole_copied t ok.falls ok.filled

  -- new row k with the old row and the copies of its parts
  record At (k : ℕ) : Type 0 where
    pub old : ℕ
    pub start : ℕ
    pub spread : Spread t start k (parts (row t old))
    pub from : origin t k ≡ old
    pub below : old < rows t

  at : (k : ℕ) → k < total → At k
  at k h = let i = inner_at t ok k h in go i.copied
    where
      go : {lo r : ℕ} → Copied t lo k r → At k
      go {lo} {r} (copy s e h i) = record { old = r; start = lo; spread = s; from = e; below = i }

  module _ (k : ℕ) (h : k < total) where
    abbrev a : At k
    a = at k h

    abbrev r : ℕ
    r = (at k h).old

    abbrev ρ : ℕ → ℕ
    ρ = renamed t k

    abbrev js : List ℕ
    js = part_places t k (at k h).old

    new_row_is : row (new_table t) k ≡ renew ρ js (row t r)
    new_row_is = row_is t ok a.from h a.below

    new_sort : sort_of (row (new_table t) k) ≡ sort_of (row t (origin t k))
    new_sort = ap sort_of new_row_is ∙ sort_renewed ρ js (row t r) ∙ ap (λ (x : ℕ). sort_of (row t x)) (sym a.from)

    new_fields : fields (row (new_table t) k) ≡ renew_fields ρ js 0 (fields (row t r))
    new_fields = ap fields new_row_is ∙ fields_renewed ρ js (row t r)

    parts_are : parts (row (new_table t) k) ≡ copied_parts t a.spread
    parts_are = new_parts t ok r a.spread a.from h a.below

    -- 2
    kind_known : sort_of (row (new_table t) k) ≡ Unknown → ⊥
    kind_known e = ok.known (origin t k) (subst (λ (x : ℕ). x < rows t) (sym a.from) a.below) (sym new_sort ∙ e)

    -- 3
    in_range_still : T (in_range (new_table t) (fields (row (new_table t) k)))
    unfolding renamed
    in_range_still =
        subst (λ (fs : List Field). T (in_range (new_table t) fs)) (sym new_fields)
        (still_ranged t (new_table t) ρ renamed_row js 0 (fields (row t r)) (ok.ranged r a.below))
      where
        renamed_row : (m : ℕ) → renamed t k m < rows (new_table t)
        renamed_row m =
            subst (λ (n : ℕ). place_of m (suc k) (drop (suc k) (origins t)) < n) (sym (new_rows t))
            (place_below m (suc k) (drop (suc k) (origins t)) total (omega linear)
            (omega (linear, length-drop (suc k) (origins t))))

    words_are : word (new_table t) k 1 ∷ word (new_table t) k 2 ∷ word (new_table t) k 3 ∷ [] ≡
        renewed ρ js 0 (fields (row t r)) (word t r 1 ∷ word t r 2 ∷ word t r 3 ∷ [])
    unfolding new_word
    words_are =
        rw (first_at t k h, second_at t k h, third_at t k h, a.from)
        (three (renewed ρ js 0 (fields (row t r)) (word t r 1 ∷ word t r 2 ∷ word t r 3 ∷ []))
        (same_length ρ js 0 (fields (row t r)) (word t r 1 ∷ word t r 2 ∷ word t r 3 ∷ [])))

    unused_still : T (unused_zero (new_table t) k (length (fields (row (new_table t) k))))
    unused_still =
        subst (λ (n : ℕ). T (unused_zero (new_table t) k n))
        (sym (ap length new_fields ∙ fields_count ρ js 0 (fields (row t r))))
        (subst (λ (ws : List ℤ). T (all_zero (drop (length (fields (row t r))) ws))) (sym words_are)
        (subst (λ (ws : List ℤ). T (all_zero ws))
        (sym (rest_kept ρ js 0 (fields (row t r)) (word t r 1 ∷ word t r 2 ∷ word t r 3 ∷ [])))
        (ok.unused r a.below)))

  -- 4: the links of a copy stay below it
  all_below_by : (u : List ℤ) (k : ℕ) (ps : List Part) → ((j i : ℕ) → Link j i ps → j < k) → T (all_below u k ps)
  all_below_by u k [] f = tt
  all_below_by u k (p ∷ ps) f =
      pair (ltb p.at k) (all_below u k ps) (lt→ltb p.at k (f p.at 0 (here refl)))
      (all_below_by u k ps (λ j i l. f j (suc i) (there l)))

  falls_still : (k : ℕ) → k < total → T (all_below (new_table t) k (parts (row (new_table t) k)))
  falls_still k h =
      all_below_by (new_table t) k (parts (row (new_table t) k)) (λ j i l. new_falls t ok k h (i, l))

  -- 5: a copy has the sort of its old row
  copied_sort : {lo k r : ℕ} → Copied t lo k r → sort_of (row (new_table t) k) ≡ sort_of (row t r)
  copied_sort (copy s e h i) = new_sort _ h ∙ ap (λ (x : ℕ). sort_of (row t x)) e

  spread_sorted : {lo k : ℕ} {ps : List Part} (s : Spread t lo k ps) → T (well_sorted t ps)
      → T (well_sorted (new_table t) (copied_parts t s))
  unfolding copied_parts
  spread_sorted none h = tt
  spread_sorted (more {j = j} {p = p} {ps = ps} c s) h =
      let b = both (same_sort (sort_of (row t p.at)) p.sort) (well_sorted t ps) h in
      pair (same_sort (sort_of (row (new_table t) j)) p.sort) (well_sorted (new_table t) (copied_parts t s))
      (subst (λ (x : Sort). T (same_sort x p.sort)) (sym (copied_sort c)) b.0) (spread_sorted s b.1)

  sorted_still : (k : ℕ) → (h : k < total) → T (well_sorted (new_table t) (parts (row (new_table t) k)))
  sorted_still k h =
      subst (λ (ps : List Part). T (well_sorted (new_table t) ps)) (sym (parts_are k h))
      (spread_sorted (a k h).spread (ok.sorted (r k h) (a k h).below))

  -- 6
  not_shared : (k : ℕ) → k < total → ¬ Shared (new_table t) k
  not_shared k h S = taken S.taken
    where
      own : Link S.to S.field (copied_parts t (a k h).spread)
      own = subst (λ (ps : List Part). Link S.to S.field ps) (parts_are k h) S.link

      taken : LinksTo (take S.field (parts (row (new_table t) k))) S.to ⊎ LinkedBelow (new_table t) k S.to
          → ⊥
      taken (inl l) =
          one_field t ok (a k h).spread own
          (subst (λ (ps : List Part). Link S.to l.0 (take S.field ps)) (parts_are k h) l.1)
      taken (inr l) =
          one_link t ok whole l.0 k (omega linear) l.1 (omega linear) l.2 (S.field, S.link)

  is_new : (k : ℕ) → k < total → T (all_new (new_table t) (linked (new_table t) k) (parts (row (new_table t) k)))
  is_new k h = go (all_new (new_table t) (linked (new_table t) k) (parts (row (new_table t) k))) refl
    where
      go : (b : Bool) → all_new (new_table t) (linked (new_table t) k) (parts (row (new_table t) k)) ≡ b → T b
      go true e = tt
      go false e = not_shared k h ((shared_iff (new_table t) k).0 e)

  no_fault : (u : List ℤ) (k : ℕ) → (sort_of (row u k) ≡ Unknown → ⊥) → T (in_range u (fields (row u k)))
      → T (unused_zero u k (length (fields (row u k))))
      → T (all_below u k (parts (row u k))) → T (well_sorted u (parts (row u k)))
      → T (all_new u (linked u k) (parts (row u k))) → row_fault u k ≡ 0
  unfolding row_fault_within
  no_fault u k n i z b s w =
      go (same_sort (sort_of (row u k)) Unknown) (in_range u (fields (row u k)))
      (unused_zero u k (length (fields (row u k))))
      (all_below u k (parts (row u k))) (well_sorted u (parts (row u k))) (all_new u (linked u k) (parts (row u k)))
      (λ e. n ((sort_iff (sort_of (row u k)) Unknown).0 e)) i z b s w
    where
      go : (a b c d e f : Bool) → (a ≡ true → ⊥) → T b → T c → T d → T e → T f
          → ◌≡◌ {A = ℕ} (cond a 2 (cond (not (b && c)) 3 (cond (not d) 4 (cond (not e) 5 (cond (not f) 6 0))))) 0
      go true b c d e f n hb hc hd he hf = absurd (n refl)
      go false false c d e f n hb hc hd he hf = elim hb [ ]
      go false true false d e f n hb hc hd he hf = elim hc [ ]
      go false true true false e f n hb hc hd he hf = elim hd [ ]
      go false true true true false f n hb hc hd he hf = elim he [ ]
      go false true true true true false n hb hc hd he hf = elim hf [ ]
      go false true true true true true n hb hc hd he hf = refl

  new_fault : (k : ℕ) → k < total → row_fault (new_table t) k ≡ 0
  new_fault k h =
      no_fault (new_table t) k (kind_known k h) (in_range_still k h) (unused_still k h) (falls_still k h)
      (sorted_still k h) (is_new k h)

  -- 7
  all_linked : (k : ℕ) → k < total - 1 → unlinked_fault (new_table t) k ≡ 0
  all_linked k h =
      let l = some_link t ok whole k (omega linear) h in
      let below : l.0 < rows (new_table t) = omega (linear, l.1, new_rows t, some_rows t ok) in
      subst (λ (b : Bool). ◌≡◌ {A = ℕ} (cond b 0 7) 0)
      (sym ((linked_iff (new_table t) (rows (new_table t)) k).1 (l.0, below, l.2))) refl

  last_script : sort_of (row (new_table t) (total - 1)) ≡ Script
  last_script = copied_sort whole ∙ ok.script

  good_length : (n m : ℕ) → n ≡ 4 * m → 0 < m → m ≤ 2048 → bad_length n ≡ false
  good_length n m e a b =
      let x = ne_eqb n 0 (λ z. omega linear) in
      let y : eqb (n % 4) 0 ≡ true = eq-eqb (n % 4) 0 (omega linear) in
      let z = le-ltb 8192 n (omega linear) in
      rw (x, y, z)

  pub passes : Passes (new_table t)
  unfolding length_test row_test_within script_test unlinked_test
  passes = record {
    length = rw (good_length (length (new_table t)) total (new_length t) (some_rows t ok) ok.few);
    row =
        (lowest_accepts (row_fault (new_table t)) (rows (new_table t)) 0).1
        (λ k i l. new_fault k (omega (linear, new_rows t)));
    script =
        let e : rows (new_table t) - 1 ≡ total - 1 = omega (linear, new_rows t) in
        rw (e, (sort_iff (sort_of (row (new_table t) (total - 1))) Script).1 last_script);
    unlinked =
        (lowest_accepts (unlinked_fault (new_table t)) (rows (new_table t) - 1) 0).1
        (λ k i l. all_linked k (omega (linear, new_rows t)));
  }
