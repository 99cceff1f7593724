-- The verdict on a table as a whole (`refusal_numbers`): "Number 1 is tested first. Then rows from 0 up, in each row 2 to 6 in
-- order over all its fields; the first faulty row decides, and that row is the one returned, not one it links to. Then 7 to
-- 12 in order. No refusal is given in other circumstances." Each test's occasion is that of `Occasions` and `Misplaced`;
-- `then_says` joins two tests in order. 11 and 12 speak of the buffers, and are no part of this verdict. Assumes nothing.
use Rattle.std.specs.Prelude.{ℕ, ◌%◌, ◌≤◌, ◌<◌, ◌≡◌, refl, ◌↔◌, ◌≢◌, ◌⊎◌, List, Bool, true, false, cond, not, ◌||◌, ℤ, length, eqb, ltb, leb}
use Rattle.std.proofs.Common.{arith, sym, ap, inl, inr, ⊎_elim, eqb-true, eq-eqb, ne_eqb, ltb-true, lt-ltb, leb-false}
use Rattle.std.proofs.Math.Logic.Iff
use Rattle.std.proofs.lemmas.Bool.{false≢true, eqb-false, lt-leb}
use Rattle.script.specs.Rows.{rows, row}
use Rattle.script.specs.Trees.{tree, nesting}
use Rattle.script.specs.Refusals.{Verdict, accepted, refused, ◌and_then◌, bad_length, row_fault, length_test, row_test, row_test_within, script_test, unlinked_test, target_test, reading_test, nesting_test, verdict, verdict_within}
use Rattle.theorems.specs.Lowest.{Says, Lowest, FirstFault, lowest_refuses}
use Rattle.theorems.specs.Tests.{either, not_iff, or_iff, turned}
use Rattle.theorems.specs.Faults.{Fault, row_faults}
use Rattle.theorems.specs.Occasions.{Unlinked, unlinked_row, AssignsFrozen, frozen_target}
use Rattle.theorems.specs.Misplaced.{Misplaced, misplaced_name}

-- ---- tests in order

-- where v refuses, or v accepts and w refuses
abbrev pub Then : Verdict → (ℕ → ℕ → Type 0) → (ℕ → ℕ → Type 0) → ℕ → ℕ → Type 0
Then v O P k r = O k r ⊎ ((v ≡ accepted) × P k r)

clash : {X : Type 0} {k r : ℕ} → accepted ≡ refused k r → X
clash e = absurd (let z : ◌≡◌ {A = ℕ} 0 1 = cc in omega arith)

pub then_says : {O P : ℕ → ℕ → Type 0} (v w : Verdict) → Says v O → (v ≡ accepted → Says w P) → Says (v and_then w) (Then v O P)
then_says accepted w f g k r = (λ e. inr (refl, (g refl k r).0 e), ⊎_elim (λ o. clash ((f k r).1 o)) (λ h. (g refl k r).1 h.1))
then_says (refused n q) w f g k r = (λ e. inl ((f k r).0 e), ⊎_elim (f k r).1 (λ h. clash (sym h.0)))

-- a verdict accepts where none of its occasions arises
pub accepts_iff : {O : ℕ → ℕ → Type 0} (v : Verdict) → Says v O → (v ≡ accepted) ↔ ((k r : ℕ) → ¬ O k r)
accepts_iff accepted f = (λ e k r o. clash ((f k r).1 o), λ g. refl)
accepts_iff (refused n q) f = (λ e. clash (sym e), λ g. absurd (g n q ((f n q).0 refl)))

-- a test of one fact gives its number and row
pub fact_says : {P : Type 0} (b : Bool) (n q : ℕ) → (b ≡ true) ↔ P → Says (cond b (refused n q) accepted) (λ k r. (k ≡ n) × (r ≡ q) × P)
fact_says true n q h k r = (λ e. (cc, cc, h.0 refl), λ s. cc (s.0, s.1))
fact_says false n q h k r = (λ e. clash e, λ s. absurd (false≢true (h.1 s.2)))

-- what follows from either of two alternatives, the second of which comes with a test that accepts or a fault that is not there
past : {A B N C : Type 0} → (A → C) → (B → C) → A ⊎ (N × B) → C
past f g = ⊎_elim f (λ h. g h.1)

-- ---- 1 and 10

-- "no words, not a multiple of 4, or over 8,192"
abbrev pub BadLength : ℕ → Type 0
BadLength n = (n ≡ 0) ⊎ ((n % 4 ≢ 0) ⊎ (8192 < n))

length_iff : (n : ℕ) → (bad_length n ≡ true) ↔ BadLength n
length_iff n = Iff.trans (or_iff (eqb n 0) (not (eqb (n % 4) 0) || ltb 8192 n)) (either (eqb-true n 0, eq-eqb n 0) rest)
  where
    fours : (not (eqb (n % 4) 0) ≡ true) ↔ (n % 4 ≢ 0)
    fours = (λ e. eqb-false (n % 4) 0 ((not_iff (eqb (n % 4) 0)).0 e), λ h. ap not (ne_eqb (n % 4) 0 h))

    rest : ((not (eqb (n % 4) 0) || ltb 8192 n) ≡ true) ↔ ((n % 4 ≢ 0) ⊎ (8192 < n))
    rest = Iff.trans (or_iff (not (eqb (n % 4) 0)) (ltb 8192 n)) (either fours (ltb-true 8192 n, lt-ltb 8192 n))

pub length_says : (ws : List ℤ) → Says (length_test ws) (λ k r. (k ≡ 1) × (r ≡ 0) × BadLength (length ws))
unfolding length_test
length_says ws = fact_says (bad_length (length ws)) 1 0 (length_iff (length ws))

-- "nesting over 8"
pub nesting_says : (ws : List ℤ) → Says (nesting_test ws) (λ k r. (k ≡ 10) × (r ≡ 0) × (8 < nesting (tree ws).body))
unfolding nesting_test
nesting_says ws =
    rw (turned (leb n 8) accepted (refused 10 0)) (fact_says (not (leb n 8)) 10 0 (Iff.trans (not_iff (leb n 8)) (leb-false n 8, lt-leb n 8)))
  where
    n : ℕ
    n = nesting (tree ws).body

-- ---- 2 to 6

-- "the first faulty row decides, and that row is the one returned, not one it links to"
pub record FaultyRow (ws : List ℤ) (k r : ℕ) : Type 0 where
  pub within : r < rows ws
  pub fault : Fault ws r k
  pub some : k ≢ 0
  pub lower : (j : ℕ) → j < r → Fault ws j 0

pub row_says : (ws : List ℤ) → Says (row_test ws) (FaultyRow ws)
unfolding row_test_within
row_says ws k r = Iff.trans (lowest_refuses (row_fault ws) (rows ws) 0 k r) (out, back)
  where
    out : FirstFault (row_fault ws) (rows ws) 0 k r → FaultyRow ws k r
    out F = record {
      within = omega arith;
      fault = (row_faults ws r k).0 F.number;
      some = F.some;
      lower = λ j h. (row_faults ws j 0).0 (F.lower j (omega arith) h);
    }

    back : FaultyRow ws k r → FirstFault (row_fault ws) (rows ws) 0 k r
    back F = record {
      from = omega arith;
      below = omega (arith, F.within);
      number = (row_faults ws r k).1 F.fault;
      some = F.some;
      lower = λ j h₁ h₂. (row_faults ws j 0).1 (F.lower j h₂);
    }

-- a fault has one of these numbers
pub fault_numbers : (ws : List ℤ) (r k : ℕ) → Fault ws r k → k ≢ 0 → (2 ≤ k) × (k ≤ 6)
fault_numbers ws r k f some =
    past (λ h. omega arith) (past (λ h. omega arith) (past (λ h. omega arith) (past (λ h. omega arith) (past (λ h. omega arith) none)))) f
  where
    none : k ≡ 0 → (2 ≤ k) × (k ≤ 6)
    none z = absurd (some z)

pub row_numbers : (ws : List ℤ) (k r : ℕ) → FaultyRow ws k r → (2 ≤ k) × (k ≤ 6)
row_numbers ws k r F = fault_numbers ws r k F.fault F.some

-- ---- the verdict

-- number k is given with row r: each test's occasion, where the tests before it accept
abbrev pub Occasion : List ℤ → ℕ → ℕ → Type 0
Occasion ws =
    Then (length_test ws) (λ k r. (k ≡ 1) × (r ≡ 0) × BadLength (length ws))
    (Then (row_test ws) (FaultyRow ws)
    (Then (script_test ws and_then unlinked_test ws) (λ k r. (k ≡ 7) × Unlinked ws r)
    (Then (target_test ws) (λ k r. (k ≡ 8) × Lowest (λ q. AssignsFrozen (row ws q)) (rows ws) r)
    (Then (reading_test ws) (λ k r. (k ≡ 9) × Lowest (Misplaced ws) (rows ws) r)
    (λ k r. (k ≡ 10) × (r ≡ 0) × (8 < nesting (tree ws).body))))))

regroup : (a b c : Verdict) → a and_then (b and_then c) ≡ (a and_then b) and_then c
regroup accepted b c = refl
regroup (refused k r) b c = refl

pub refusal_numbers : (ws : List ℤ) → Says (verdict ws) (Occasion ws)
unfolding verdict_within
refusal_numbers ws =
    then_says (length_test ws) (row_test ws and_then rest) (length_says ws)
    (λ e. then_says (row_test ws) rest (row_says ws)
    (λ ok. rw (regroup (script_test ws) (unlinked_test ws) (target_test ws and_then reading_test ws and_then nesting_test ws))
    (then_says (script_test ws and_then unlinked_test ws) (target_test ws and_then reading_test ws and_then nesting_test ws) (unlinked_row ws)
    (λ e. then_says (target_test ws) (reading_test ws and_then nesting_test ws) (frozen_target ws)
    (λ e. then_says (reading_test ws) (nesting_test ws) (misplaced_name ws ok) (λ e. nesting_says ws))))))
  where
    rest : Verdict
    rest = script_test ws and_then unlinked_test ws and_then target_test ws and_then reading_test ws and_then nesting_test ws

-- the length is tested first
pub length_refused : (ws : List ℤ) → BadLength (length ws) → verdict ws ≡ refused 1 0
length_refused ws h = (refusal_numbers ws 1 0).1 (inl (refl, refl, h))

-- "No refusal is given in other circumstances."
pub no_other : (ws : List ℤ) → (verdict ws ≡ accepted) ↔ ((k r : ℕ) → ¬ Occasion ws k r)
no_other ws = accepts_iff (verdict ws) (refusal_numbers ws)

pub one_to_ten : (ws : List ℤ) (k r : ℕ) → verdict ws ≡ refused k r → (1 ≤ k) × (k ≤ 10)
one_to_ten ws k r e =
    past (λ h. omega arith) (past rows_in_range (past (λ h. omega arith) (past (λ h. omega arith) (past (λ h. omega arith) (λ h. omega arith)))))
    ((refusal_numbers ws k r).0 e)
  where
    rows_in_range : FaultyRow ws k r → (1 ≤ k) × (k ≤ 10)
    rows_in_range F = let h = row_numbers ws k r F in omega arith
