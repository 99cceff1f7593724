-- The faults of one row for the mender, which are those of 01 but 6: in order (`part_fault_is`), in the words of 01
-- (`part_some`, `part_none`), and what a row has that has none (`sound_part`). Each by cases on the tests of 01.
-- Assumes nothing.
use Prim.Native.Nat.{ℕ, suc}
use Rattle.std.proofs.Common.{arith as linear, sym, ◌∙◌, true≢false}
use Rattle.std.specs.Prelude.{◌≡◌, ◌↔◌, ◌≢◌, List, Bool, not, ◌&&◌, ℤ, T, length}
use Rattle.std.proofs.Math.Path.{refl}
use Rattle.std.proofs.Math.Bool.{true, false, cond}
use Rattle.std.proofs.Math.Dec.{eqb}
use borrow.Author.Tests.{eqb-true, eqb-false}
use Rattle.script.specs.declared.Sort.TheVariants.{Unknown}
use Rattle.script.specs.Rows.{fields, parts, sort_of, row}
use Rattle.script.specs.Refusals.{same_sort, in_range, unused_zero, all_below, well_sorted, all_new, linked, row_fault, row_fault_within}
use Rattle.theorems.specs.Tests.{sort_iff}
use Rattle.theorems.specs.Faults.{Fault, WellMade, row_faults, whole_row, linked_twice}
use Rattle.theorems.specs.Accepted.{fault_free}
use Rattle.mending.specs.Mended.{part_fault}

module _ (t : List ℤ) (r : ℕ) where
  -- 2 to 5, in the order of 01
  part_fault_is : part_fault t r ≡
      cond (same_sort (sort_of (row t r)) Unknown) 2
      (cond (not (in_range t (fields (row t r)) && unused_zero t r (length (fields (row t r))))) 3
      (cond (not (all_below t r (parts (row t r)))) 4 (cond (not (well_sorted t (parts (row t r)))) 5 0)))
  unfolding part_fault row_fault_within
  part_fault_is =
      go (same_sort (sort_of (row t r)) Unknown)
      (not (in_range t (fields (row t r)) && unused_zero t r (length (fields (row t r)))))
      (not (all_below t r (parts (row t r)))) (not (well_sorted t (parts (row t r))))
      (not (all_new t (linked t r) (parts (row t r))))
    where
      go : (a b c d e : Bool) → let x : ℕ = cond a 2 (cond b 3 (cond c 4 (cond d 5 (cond e 6 0)))) in
          cond (eqb x 6) 0 x ≡ cond a 2 (cond b 3 (cond c 4 (cond d 5 0)))
      go true b c d e = refl
      go false true c d e = refl
      go false false true d e = refl
      go false false false true e = refl
      go false false false false true = refl
      go false false false false false = refl

  -- a number other than 0: that of 01, where it is not 6
  pub part_some : (k : ℕ) → k ≢ 0 → (part_fault t r ≡ k) ↔ (Fault t r k × (k ≢ 6))
  unfolding part_fault
  part_some k some = go (eqb (row_fault t r) 6) refl
    where
      go : (b : Bool) → eqb (row_fault t r) 6 ≡ b → (cond b 0 (row_fault t r) ≡ k) ↔ (Fault t r k × (k ≢ 6))
      go true e = (
        λ h. absurd (some (sym h)),
        λ h. absurd
            (h.1 (sym ((row_faults t r k).1 h.0) ∙ eqb-true (row_fault t r) 6 e)),
      )
      go false e =
          (λ h. ((row_faults t r k).0 h, λ s. eqb-false (row_fault t r) 6 e (h ∙ s)), λ h. (row_faults t r k).1 h.0)

  -- none: the row passes 2 to 5 of 01
  pub part_none : (part_fault t r ≡ 0) ↔ WellMade t r
  unfolding part_fault
  part_none = go (eqb (row_fault t r) 6) refl
    where
      go : (b : Bool) → eqb (row_fault t r) 6 ≡ b → (cond b 0 (row_fault t r) ≡ 0) ↔ WellMade t r
      go true e = (λ h. ((linked_twice t r).0 (eqb-true (row_fault t r) 6 e)).0, λ w. refl)
      go false e = (
        λ h. ((whole_row t r).0 h).0,
        λ w. (whole_row t r).1 (w, λ s. eqb-false (row_fault t r) 6 e ((linked_twice t r).1 (w, s))),
      )

  -- none in 01, none here
  pub part_free : row_fault t r ≡ 0 → part_fault t r ≡ 0
  part_free e = part_none.1 ((whole_row t r).0 e).0

  -- ---- the tests that a row without such a fault passes

  pub record SoundPart : Type 0 where
    pub known : sort_of (row t r) ≢ Unknown
    pub ranges : T (in_range t (fields (row t r)) && unused_zero t r (length (fields (row t r))))
    pub order : T (all_below t r (parts (row t r)))
    pub sorts : T (well_sorted t (parts (row t r)))

  pub sound_part : part_fault t r ≡ 0 → SoundPart
  sound_part h =
      let a = past (same_sort (sort_of (row t r)) Unknown) 1 _ (sym part_fault_is ∙ h) in
      let b = fault_free (in_range t (fields (row t r)) && unused_zero t r (length (fields (row t r)))) 2 _ a.1 in
      let c = fault_free (all_below t r (parts (row t r))) 3 _ b.1 in
      let d = fault_free (well_sorted t (parts (row t r))) 4 _ c.1 in
      record {
        known = λ e. true≢false (sym ((sort_iff (sort_of (row t r)) Unknown).1 e) ∙ a.0);
        ranges = b.0;
        order = c.0;
        sorts = d.0;
      }
    where
      past : (b : Bool) (k x : ℕ) → cond b (suc k) x ≡ 0 → (b ≡ false) × (x ≡ 0)
      past true k x h = absurd (omega linear)
      past false k x h = (refl, h)
