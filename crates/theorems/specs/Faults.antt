-- The refusals 2 to 6 of one row in the words of 01, in the order of their tests (`row_faults`). Each test asks something of
-- all fields or links, so it fails where one of them lacks it; a row has the first number whose test fails.
-- `linked_twice` is number 6 by itself, `whole_row` a row that passes them all. Assumes nothing.
use Rattle.std.specs.Prelude.{ℕ, ◌≤◌, ◌≡◌, refl, ◌↔◌, ◌≢◌, ◌⊎◌, List, [], ◌∷◌, Bool, true, false, cond, not, ◌&&◌, ℤ, pos, negsuc, length, drop, ltb}
use Rattle.std.proofs.Common.{arith, sym, ap, inl, inr, ⊎_elim, true≢false, eqb-true, ltb-false, le-ltb}
use Rattle.std.proofs.Math.Logic.Iff
use Rattle.std.proofs.lemmas.Bool.{false≢true}
use Rattle.script.specs.declared.Row.{Row}
use Rattle.script.specs.declared.Sort.TheVariants.{Unknown}
use Rattle.script.specs.Rows.{Field, value, variable, target, loop, link, Part, fields, sort_of, parts, variables, rows, row, word}
use Rattle.script.specs.Refusals.{same_sort, is_zero, all_zero, linked, in_range, unused_zero, all_below, well_sorted, all_new, row_fault, row_fault_within}
use Rattle.theorems.specs.Tests.{either, not_iff, false_iff, and_false, sort_iff}
use Rattle.theorems.specs.Links.{Shared, shared_iff}

-- ---- lists of fields, words and parts

-- some element of a list has the property
abbrev pub Some : {A : Type 0} → (A → Type 0) → List A → Type 0
Some P [] = ⊥
Some P (x ∷ xs) = P x ⊎ Some P xs

not_this : {P : Type 0} → P ↔ (⊥ ⊎ P)
not_this = (inr, ⊎_elim absurd (λ p. p))

at_least : (v n : ℕ) → (ltb v n ≡ false) ↔ (n ≤ v)
at_least v n = (ltb-false v n, le-ltb v n)

zero_iff : (z : ℤ) → (is_zero z ≡ true) ↔ (z ≡ pos 0)
zero_iff (pos a) = (λ e. ap pos (eqb-true a 0 e), ap is_zero)
zero_iff (negsuc a) = (λ e. absurd (false≢true e), ap is_zero)

zeros_iff : (zs : List ℤ) → (all_zero zs ≡ false) ↔ Some (λ z. z ≢ pos 0) zs
zeros_iff [] = (true≢false, absurd)
zeros_iff (z ∷ zs) = Iff.trans (and_false (is_zero z) (all_zero zs)) (either (false_iff (is_zero z) (zero_iff z)) (zeros_iff zs))

-- ---- the words of 01

module _ (ws : List ℤ) where
  -- "variable number not 0 to 255, a mark's row not in the table"; with 02, P2, not 0 to 1,023
  abbrev pub Beyond : Field → Type 0
  Beyond value = ⊥
  Beyond (variable v) = variables ≤ v
  Beyond (target v) = variables ≤ v
  Beyond (loop m) = rows ws ≤ m
  Beyond (link s r) = ⊥

  range_iff : (fs : List Field) → (in_range ws fs ≡ false) ↔ Some Beyond fs
  range_iff [] = (true≢false, absurd)
  range_iff (value ∷ fs) = Iff.trans (range_iff fs) not_this
  range_iff (variable v ∷ fs) = Iff.trans (and_false (ltb v variables) (in_range ws fs)) (either (at_least v variables) (range_iff fs))
  range_iff (target v ∷ fs) = Iff.trans (and_false (ltb v variables) (in_range ws fs)) (either (at_least v variables) (range_iff fs))
  range_iff (loop m ∷ fs) = Iff.trans (and_false (ltb m (rows ws)) (in_range ws fs)) (either (at_least m (rows ws)) (range_iff fs))
  range_iff (link s r ∷ fs) = Iff.trans (range_iff fs) not_this

  below_iff : (r : ℕ) (ps : List Part) → (all_below ws r ps ≡ false) ↔ Some (λ p. r ≤ p.at) ps
  below_iff r [] = (true≢false, absurd)
  below_iff r (p ∷ ps) = Iff.trans (and_false (ltb p.at r) (all_below ws r ps)) (either (at_least p.at r) (below_iff r ps))

  sorted_iff : (ps : List Part) → (well_sorted ws ps ≡ false) ↔ Some (λ p. sort_of (row ws p.at) ≢ p.sort) ps
  sorted_iff [] = (true≢false, absurd)
  sorted_iff (p ∷ ps) = Iff.trans (and_false (same_sort (sort_of (row ws p.at)) p.sort) (well_sorted ws ps))
      (either (false_iff (same_sort (sort_of (row ws p.at)) p.sort) (sort_iff (sort_of (row ws p.at)) p.sort)) (sorted_iff ps))

  -- 2: "kind not listed"
  abbrev pub Unlisted : ℕ → Type 0
  Unlisted r = sort_of (row ws r) ≡ Unknown

  -- 3: "variable number not 0 to 255, a mark's row not in the table, or an unused field not 0"; with 02, P2, not 0 to 1,023
  abbrev pub OutOfRange : ℕ → Type 0
  OutOfRange r = Some Beyond (fields (row ws r)) ⊎
      Some (λ z. z ≢ pos 0) (drop (length (fields (row ws r))) (word ws r 1 ∷ word ws r 2 ∷ word ws r 3 ∷ []))

  -- 4: "link not from 0 to its row less 1"
  abbrev pub RisingLink : ℕ → Type 0
  RisingLink r = Some (λ p. r ≤ p.at) (parts (row ws r))

  -- 5: "a linked row has the wrong sort"
  abbrev pub WrongSort : ℕ → Type 0
  WrongSort r = Some (λ p. sort_of (row ws p.at) ≢ p.sort) (parts (row ws r))

-- ---- the tests in order

-- the number n where P holds, and what Q gives elsewhere
abbrev pub Else : Type 0 → ℕ → (ℕ → Type 0) → ℕ → Type 0
Else P n Q k = (P × (k ≡ n)) ⊎ ((¬ P) × Q k)

chosen : {P : Type 0} (Q : ℕ → Type 0) (b : Bool) (n x k : ℕ) → (b ≡ true) ↔ P → (x ≡ k) ↔ Q k → (cond b n x ≡ k) ↔ Else P n Q k
chosen Q true n x k p q = (λ e. inl (p.0 refl, sym e), ⊎_elim (λ h. sym h.1) (λ h. absurd (h.0 (p.0 refl))))
chosen Q false n x k p q =
    (λ e. inr (λ a. false≢true (p.1 a), q.0 e), ⊎_elim (λ h. absurd (false≢true (p.1 h.0))) (λ h. q.1 h.1))

module _ (ws : List ℤ) (r : ℕ) where
  abbrev from_6 : ℕ → Type 0
  from_6 = Else (Shared ws r) 6 (λ k. k ≡ 0)

  abbrev from_5 : ℕ → Type 0
  from_5 = Else (WrongSort ws r) 5 from_6

  abbrev from_4 : ℕ → Type 0
  from_4 = Else (RisingLink ws r) 4 from_5

  abbrev from_3 : ℕ → Type 0
  from_3 = Else (OutOfRange ws r) 3 from_4

  -- "in each row 2 to 6 in order over all its fields"
  abbrev pub Fault : ℕ → Type 0
  Fault = Else (Unlisted ws r) 2 from_3

  pub row_faults : (k : ℕ) → (row_fault ws r ≡ k) ↔ Fault k
  unfolding row_fault_within
  row_faults k =
      chosen from_3 (same_sort (sort_of w) Unknown) 2 _ k (sort_iff (sort_of w) Unknown)
      (chosen from_4 (not (in_range ws (fields w) && unused)) 3 _ k (Iff.trans (not_iff (in_range ws (fields w) && unused)) ranges)
      (chosen from_5 (not (all_below ws r (parts w))) 4 _ k (Iff.trans (not_iff (all_below ws r (parts w))) (below_iff ws r (parts w)))
      (chosen from_6 (not (well_sorted ws (parts w))) 5 _ k (Iff.trans (not_iff (well_sorted ws (parts w))) (sorted_iff ws (parts w)))
      (chosen (λ k. k ≡ 0) (not new) 6 0 k (Iff.trans (not_iff new) (shared_iff ws r)) (sym, sym)))))
    where
      w : Row
      w = row ws r

      unused : Bool
      unused = unused_zero ws r (length (fields w))

      new : Bool
      new = all_new ws (linked ws r) (parts w)

      ranges : ((in_range ws (fields w) && unused) ≡ false) ↔ OutOfRange ws r
      ranges = Iff.trans (and_false (in_range ws (fields w)) unused) (either (range_iff ws (fields w))
          (zeros_iff (drop (length (fields w)) (word ws r 1 ∷ word ws r 2 ∷ word ws r 3 ∷ []))))

  -- what the tests 2 to 5 ask of row r
  pub record WellMade : Type 0 where
    pub listed : ¬ Unlisted ws r
    pub ranged : ¬ OutOfRange ws r
    pub falls : ¬ RisingLink ws r
    pub sorted : ¬ WrongSort ws r

  -- a number that is none of 2 to 5
  passed_to_6 : (k : ℕ) → (k ≢ 2) × (k ≢ 3) × (k ≢ 4) × (k ≢ 5) → Fault k ↔ (WellMade × from_6 k)
  passed_to_6 k n = (out, λ h. let w = h.0 in inr (w.listed, inr (w.ranged, inr (w.falls, inr (w.sorted, h.1)))))
    where
      past : {P : Type 0} (Q : ℕ → Type 0) {m : ℕ} → k ≢ m → Else P m Q k → (¬ P) × Q k
      past Q f = ⊎_elim (λ h. absurd (f h.1)) (λ h. h)

      out : Fault k → WellMade × from_6 k
      out f =
          let a = past from_3 n.0 f in
          let b = past from_4 n.1 a.1 in
          let c = past from_5 n.2 b.1 in
          let d = past from_6 n.3 c.1 in
          (record { listed = a.0; ranged = b.0; falls = c.0; sorted = d.0 }, d.1)

-- "a link's row already linked by a lower row or an earlier field", in a row that passes the tests before
pub linked_twice : (ws : List ℤ) (r : ℕ) → (row_fault ws r ≡ 6) ↔ (WellMade ws r × Shared ws r)
linked_twice ws r = Iff.trans (row_faults ws r 6) (Iff.trans (passed_to_6 ws r 6 (omega arith)) (out, λ h. (h.0, inl (h.1, refl))))
  where
    out : WellMade ws r × from_6 ws r 6 → WellMade ws r × Shared ws r
    out h = (h.0, ⊎_elim (λ s. s.0) (λ s. absurd (omega arith)) h.1)

-- a row without a fault
pub whole_row : (ws : List ℤ) (r : ℕ) → (row_fault ws r ≡ 0) ↔ (WellMade ws r × ¬ Shared ws r)
whole_row ws r = Iff.trans (row_faults ws r 0) (Iff.trans (passed_to_6 ws r 0 (omega arith)) (out, λ h. (h.0, inr (h.1, refl))))
  where
    out : WellMade ws r × from_6 ws r 0 → WellMade ws r × ¬ Shared ws r
    out h = (h.0, ⊎_elim (λ s. absurd (omega arith)) (λ s. s.0) h.1)
