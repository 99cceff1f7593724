-- 02, P2: "so that no stored table changes meaning". Where the limit of the variables' numbers rises from a to b, a table gets
-- the verdict and the outcome that it got, answer and every word, or it was refused with number 3 at a row with a variable's
-- number from a to b - 1 (`verdict_stays`, `outcome_stays`). So a table without such numbers gets the outcome that it got
-- (`without_new`), and so does one whose number was not 3, planned tables among them (`not_refused_3`). At the end both for 01's
-- 256 and the number of variables there is now.
-- Argument: the tests read the limit only in a row's fields, and where the two limits tell the fields of a row apart, the first
-- one refuses that row with 3. Assumes nothing.
use Prim.Native.Nat.{ℕ, zero, suc, ◌+◌, ◌≤◌, ◌<◌}
use Rattle.std.proofs.Common.{arith as linear, sym, ◌∙◌, lt-ltb, le-ltb}
use Rattle.std.proofs.Math.Nat.{zero-add}
use Rattle.std.proofs.Math.Decide.{dec_lt, ℕ_discrete}
use Rattle.std.specs.Prelude.{◌≡◌, ◌≢◌, ◌⊎◌, List, [], ◌∷◌, Bool, not, ◌&&◌, ℤ, ltb}
use Rattle.std.proofs.Math.Path.{refl, ap}
use Rattle.std.proofs.Math.Logic.{inl, inr, ⊎_elim}
use Rattle.std.proofs.Math.Bool.{true, false, cond}
use Rattle.script.specs.declared.Sort.TheVariants.{Unknown}
use Rattle.script.specs.Rows.{Field, value, variable, target, loop, link, fields, sort_of, rows, row, variables}
use Rattle.script.specs.Trees.{tree}
use Rattle.script.specs.Refusals.{Verdict, accepted, refused, ◌and_then◌, lowest, same_sort, in_range_within, row_fault_within, length_test, row_test_within, verdict_within, verdict}
use Rattle.script.specs.Conditions.{conditions}
use Rattle.script.specs.Generated.{Outcome, refuse, scratch_need, outcome_for, outcome_within, outcome}
use Rattle.theorems.specs.Faults.{Some}
use Rattle.theorems.specs.Lowest.{passed, stopped}

-- ---- two limits

module _ (a b : ℕ) where
  -- a variable's number that is new
  abbrev pub New : Field → Type 0
  New value = ⊥
  New (variable v) = (a ≤ v) × (v < b)
  New (target v) = (a ≤ v) × (v < b)
  New (loop m) = ⊥
  New (link s r) = ⊥

module _ (a b : ℕ) (ws : List ℤ) where
  -- row r has such a number
  abbrev pub NewAt : ℕ → Type 0
  NewAt r = Some (New a b) (fields (row ws r))

  -- the second verdict is the first, or the first was 3 at a row below n with a new number
  abbrev pub Stays : ℕ → Verdict → Verdict → Type 0
  Stays n v w = (v ≡ w) ⊎ ((r : ℕ) × (r < n) × (v ≡ refused 3 r) × NewAt r)

module _ (a b : ℕ) (rises : a ≤ b) (ws : List ℤ) where
  -- the tests of fields agree, or the first one fails and a number is new
  abbrev Agree : List Field → Type 0
  Agree fs = (in_range_within a ws fs ≡ in_range_within b ws fs) ⊎ ((in_range_within a ws fs ≡ false) × Some (New a b) fs)

  and_both : (t p q : Bool) {P : Type 0} → (p ≡ q) ⊎ ((p ≡ false) × P) → ((t && p) ≡ (t && q)) ⊎ (((t && p) ≡ false) × P)
  and_both true p q h = h
  and_both false p q h = inl refl

  later : {P Q : Type 0} {p q : Bool} → (P → Q) → (p ≡ q) ⊎ ((p ≡ false) × P) → (p ≡ q) ⊎ ((p ≡ false) × Q)
  later f (inl e) = inl e
  later f (inr h) = inr (h.0, f h.1)

  -- a variable's number before fields that agree
  numbered : (f : Field) (v : ℕ) (fs : List Field) → ((a ≤ v) × (v < b) → New a b f) → Agree fs
      → ((ltb v a && in_range_within a ws fs) ≡ (ltb v b && in_range_within b ws fs))
      ⊎ (((ltb v a && in_range_within a ws fs) ≡ false) × Some (New a b) (f ∷ fs))
  numbered f v fs new h = go (dec_lt v a) (dec_lt v b)
    where
      go : Dec (v < a) → Dec (v < b)
          → ((ltb v a && in_range_within a ws fs) ≡ (ltb v b && in_range_within b ws fs))
          ⊎ (((ltb v a && in_range_within a ws fs) ≡ false) × Some (New a b) (f ∷ fs))
      go (yes l) m = rw (lt-ltb v a l, lt-ltb v b (omega linear)) (later inr h)
      go (no l) (yes m) = rw (le-ltb v a (omega linear)) (inr (refl, inl (new (omega linear, m))))
      go (no l) (no m) = rw (le-ltb v a (omega linear), le-ltb v b (omega linear)) (inl refl)

  fields_agree : (fs : List Field) → Agree fs
  fields_agree [] = inl refl
  fields_agree (value ∷ fs) = later inr (fields_agree fs)
  fields_agree (variable v ∷ fs) = numbered (variable v) v fs (λ n. n) (fields_agree fs)
  fields_agree (target v ∷ fs) = numbered (target v) v fs (λ n. n) (fields_agree fs)
  fields_agree (loop m ∷ fs) = later inr (and_both (ltb m (rows ws)) _ _ (fields_agree fs))
  fields_agree (link s r ∷ fs) = later inr (fields_agree fs)

  -- ---- the rows

  faults_agree : (r : ℕ) → (row_fault_within a ws r ≡ row_fault_within b ws r) ⊎ ((row_fault_within a ws r ≡ 3) × NewAt a b ws r)
  unfolding row_fault_within
  faults_agree r = go (same_sort (sort_of (row ws r)) Unknown) _ _ _ _ (fields_agree (fields (row ws r)))
    where
      go : (unknown p q unused : Bool) (x : ℕ) → (p ≡ q) ⊎ ((p ≡ false) × NewAt a b ws r)
          → (cond unknown 2 (cond (not (p && unused)) 3 x) ≡ cond unknown 2 (cond (not (q && unused)) 3 x))
          ⊎ ((cond unknown 2 (cond (not (p && unused)) 3 x) ≡ 3) × NewAt a b ws r)
      go true p q unused x h = inl refl
      go false p q unused x (inl e) = inl (ap (λ t. cond (not (t && unused)) 3 x) e)
      go false p q unused x (inr h) = inr (rw h.0, h.1)

  lowest_stays : (f g : ℕ → ℕ) → ((k : ℕ) → (f k ≡ g k) ⊎ ((f k ≡ 3) × NewAt a b ws k)) → (n r : ℕ)
      → Stays a b ws (r + n) (lowest f n r) (lowest g n r)
  unfolding lowest
  lowest_stays f g h zero r = inl refl
  lowest_stays f g h (suc n) r = go (h r) (ℕ_discrete (f r) 0) (lowest_stays f g h n (suc r))
    where
      further : {v w : Verdict} → Stays a b ws (suc r + n) v w → Stays a b ws (r + suc n) v w
      further (inl e) = inl e
      further (inr k) = inr (k.0, omega (linear, k.1), k.2, k.3)

      go : (f r ≡ g r) ⊎ ((f r ≡ 3) × NewAt a b ws r) → Dec (f r ≡ 0) → Stays a b ws (suc r + n) (lowest f n (suc r)) (lowest g n (suc r))
          → Stays a b ws (r + suc n) (lowest f (suc n) r) (lowest g (suc n) r)
      go (inl e) (yes z) above = rw (passed f n r z, passed g n r (sym e ∙ z)) (further above)
      go (inl e) (no d) above = inl (stopped f n r d ∙ ap (λ x. refused x r) e ∙ sym (stopped g n r (λ z. d (e ∙ z))))
      go (inr k) z above = inr (r, omega linear, stopped f n r (λ y. omega (linear, k.0)) ∙ ap (λ x. refused x r) k.0, k.1)

  then_stays : (l v w rest : Verdict) {n : ℕ} → Stays a b ws n v w → Stays a b ws n (l and_then (v and_then rest)) (l and_then (w and_then rest))
  then_stays accepted v w rest (inl e) = inl (ap (λ x. x and_then rest) e)
  then_stays accepted v w rest (inr h) = inr (h.0, h.1, rw h.2, h.3)
  then_stays (refused k r) v w rest h = inl refl

  pub verdict_stays : Stays a b ws (rows ws) (verdict_within a ws) (verdict_within b ws)
  unfolding verdict_within row_test_within
  verdict_stays =
      let rows_stay = lowest_stays (row_fault_within a ws) (row_fault_within b ws) faults_agree (rows ws) 0 in
      then_stays (length_test ws) _ _ _ (rw zero-add at rows_stay)

  -- ---- the outcome

  module _ (list scratch : ℕ) where
    pub outcome_stays : (outcome_within a ws list scratch ≡ outcome_within b ws list scratch)
        ⊎ ((r : ℕ) × (r < rows ws) × (outcome_within a ws list scratch ≡ refuse 3 r list scratch) × NewAt a b ws r)
    unfolding outcome_within
    outcome_stays = ⊎_elim (λ e. inl (ap answered e)) (λ h. inr (h.0, h.1, ap answered h.2, h.3)) verdict_stays
      where
        answered : Verdict → Outcome
        answered (refused n r) = refuse n r list scratch
        answered accepted = outcome_for (scratch_need ws) (conditions (tree ws)) list scratch

    pub without_new : ((r : ℕ) → r < rows ws → ¬ NewAt a b ws r) → outcome_within a ws list scratch ≡ outcome_within b ws list scratch
    without_new none = ⊎_elim (λ e. e) (λ h. absurd (none h.0 h.1 h.3)) outcome_stays

    pub not_refused_3 : (outcome_within a ws list scratch).answer.number ≢ 3
        → outcome_within a ws list scratch ≡ outcome_within b ws list scratch
    not_refused_3 other =
        ⊎_elim (λ e. e) (λ h. absurd (other (ap (λ (o : Outcome). o.answer.number) h.2))) outcome_stays

-- ---- from 01 to P2

-- 01: "number 0 to 255"
abbrev pub variables_before : ℕ
variables_before = 256

module _ (table : List ℤ) where
  -- the table has no variable's number from 256 to 1,023
  abbrev pub WithoutNew : Type 0
  WithoutNew = (r : ℕ) → r < rows table → ¬ NewAt variables_before variables table r

  pub stored_verdict : WithoutNew → verdict_within variables_before table ≡ verdict table
  stored_verdict free = ⊎_elim (λ e. e) (λ h. absurd (free h.0 h.1 h.3)) (verdict_stays variables_before variables (omega linear) table)

  pub stored_table : WithoutNew → (list scratch : ℕ) → outcome_within variables_before table list scratch ≡ outcome table list scratch
  stored_table free list scratch = without_new variables_before variables (omega linear) table list scratch free

  pub answered_table : (list scratch : ℕ) → (outcome_within variables_before table list scratch).answer.number ≢ 3
      → outcome_within variables_before table list scratch ≡ outcome table list scratch
  answered_table = not_refused_3 variables_before variables (omega linear) table
