-- Loops that look for the lowest row with a fault, and what they give to the tests 1 to 8.
-- Argument: while no row below i has a fault, the test from row i up is the whole test. Assumes nothing.
use Rattle.std.specs.Prelude.{ℕ, suc, ◌+◌, ◌-◌, ◌%◌, ◌≤◌, ◌<◌, ◌≡◌, refl, ◌≢◌, Bool, true, false, ◌||◌, List, eqb, ltb, length, get_or, ℤ, Option, Some, None, Result, Ok, Err}
use Rattle.std.proofs.Math.Path.{sym}
use Rattle.std.proofs.Common.{ap, ◌∙◌, inl, true≢false, arith as linear, add-one}
use Rattle.std.proofs.Math.Decide.{ℕ_discrete}
use borrow.Author.Tests.{eq-eqb, ne_eqb}
use Rattle.script.specs.Rows.{field_number, fields, rows, row, word}
use Rattle.script.specs.Refusals.{bad_length, Verdict, accepted, refused, lowest, assigns_frozen, linked, unlinked_fault, target_fault, row_fault, row_test, row_test_within, script_test, unlinked_test, target_test}
use Rattle.theorems.specs.Accepted.{clash}
use Rattle.table.specs.declared.Refusal.{Refusal}
use Rattle.rows.specs.declared.Fault.{Fault}
use Rattle.rows.specs.Numbers.{not_none, number_of}
use Rattle.table.specs.Verdicts.{verdict_of}
use Rattle.rows.specs.States.{Sized, States, Tested, states_none, small_letter, capital_letter}
use Rattle.script.specs.declared.kinds.Kind.{Kind}
use Rattle.script.specs.Kinds.{kind_of}
use Rattle.table.specs.Kinds.{named, script_at, is_kind, no_kind}

-- ---- a loop over the rows below n, at row i

pub record Reached (fault : ℕ → ℕ) (n i : ℕ) : Type 0 where
  pub within : i ≤ n
  pub rest : lowest fault (n - i) i ≡ lowest fault n 0

pub reached_none : {fault : ℕ → ℕ} {n : ℕ} → Reached fault n 0
reached_none {fault} {n} = record { within = omega linear; rest = ap (λ (k : ℕ). lowest fault k 0) (omega linear) }

lowest_at : (fault : ℕ → ℕ) (n i m : ℕ) → n - i ≡ suc m
    → lowest fault (n - i) i ≡ elim (eqb (fault i) 0) [ true ↦ lowest fault m (suc i) | false ↦ refused (fault i) i ]
unfolding lowest
lowest_at fault n i m e = rw e

either_true : (b : Bool) (v w : Verdict) → b ≡ true → elim b [ true ↦ v | false ↦ w ] ≡ v
either_true b v w e = rw e

either_false : (b : Bool) (v w : Verdict) → b ≡ false → elim b [ true ↦ v | false ↦ w ] ≡ w
either_false b v w e = rw e

pub reached_more : {fault : ℕ → ℕ} {n i : ℕ} → Reached fault n i → i < n → fault i ≡ 0 → Reached fault n (i + 1)
reached_more {fault} {n} {i} r h e =
    let step = lowest_at fault n i (n - (i + 1)) (omega linear) in
    record {
      within = omega linear;
      rest = ap (lowest fault (n - (i + 1))) (add-one i) ∙ (sym (step ∙ either_true (eqb (fault i) 0) _ _ (eq-eqb (fault i) 0 e)) ∙ r.rest);
    }

pub reached_fault : {fault : ℕ → ℕ} {n i : ℕ} → Reached fault n i → i < n → fault i ≢ 0 → refused (fault i) i ≡ lowest fault n 0
reached_fault {fault} {n} {i} r h e =
    sym (lowest_at fault n i (n - (i + 1)) (omega linear) ∙ either_false (eqb (fault i) 0) _ _ (ne_eqb (fault i) 0 e)) ∙ r.rest

pub reached_all : {fault : ℕ → ℕ} {n i : ℕ} → Reached fault n i → n ≤ i → accepted ≡ lowest fault n 0
unfolding lowest
reached_all {fault} {n} {i} r h =
    let z : n - i ≡ 0 = omega linear in
    sym (ap (λ (k : ℕ). lowest fault k i) z) ∙ r.rest

-- ---- 1

pub length_good : (n : ℕ) → n ≢ 0 → n % 4 ≡ 0 → ltb 8192 n ≡ bad_length n
length_good n a b = rw (ne_eqb n 0 a, eq-eqb (n % 4) 0 b)

pub length_odd : (n : ℕ) → n ≢ 0 → n % 4 ≢ 0 → true ≡ bad_length n
length_odd n a b = rw (ne_eqb n 0 a, ne_eqb (n % 4) 0 b)

-- ---- 2 to 6

pub record RowsAt (t : List ℤ) (i : ℕ) (s : List ℕ) : Type 0 where
  pub reached : Reached (row_fault t) (rows t) i
  pub shown : States t i (linked t i) s

pub record RowsTested (t : List ℤ) (v : Result (Unit {0}) Refusal) (s : List ℕ) : Type 0 where
  pub is : verdict_of v ≡ row_test t
  pub shown : verdict_of v ≡ accepted → States t (rows t) (linked t (rows t)) s

pub rows_none : {t : List ℤ} {s : List ℕ} → length s ≡ 2048 → RowsAt t 0 s
unfolding linked
rows_none h = record { reached = reached_none; shown = states_none h }

pub rows_more : {t : List ℤ} {i : ℕ} {f : Option Fault} {s s' : List ℕ} → RowsAt t i s → i < rows t → Tested t i (number_of f) s' → f ≡ None
    → RowsAt t (i + 1) s'
rows_more {i} a h d e =
    let z = ap number_of e in
    record { reached = reached_more a.reached h (sym d.is ∙ z); shown = rw (add-one i) (d.shown (inl z)) }

pub rows_refused : {t : List ℤ} {i : ℕ} {f : Option Fault} {g : Fault} {s s' : List ℕ} → RowsAt t i s → i < rows t → Tested t i (number_of f) s'
    → f ≡ Some g → RowsTested t (Err (record { fault = g; row = record { 0 = i } })) s'
unfolding row_test_within
rows_refused {i} {g = g} a h d e =
    let z = sym (ap number_of e) ∙ d.is in
    record { is = ap (λ (k : ℕ). refused k i) z ∙ reached_fault a.reached h (λ y. not_none g (z ∙ y)); shown = clash }

pub rows_accepted : {t : List ℤ} {i : ℕ} {s : List ℕ} {u : Unit {0}} → RowsAt t i s → rows t ≤ i → RowsTested t (Ok u) s
unfolding row_test_within
rows_accepted {t} {i} {s} a h =
    let w = a.reached.within in
    let e : i ≡ rows t = omega linear in
    record { is = reached_all a.reached h; shown = λ z. rw e at a.shown }

-- ---- 7

module _ (t : List ℤ) {i : ℕ} {s : List ℕ} (z : Sized t) (sh : States t (rows t) (linked t (rows t)) s) (r : Reached (unlinked_fault t) (rows t - 1) i) (h : i < rows t - 1) where
  pub unlinked_more : 97 ≤ get_or s i 0 → Reached (unlinked_fault t) (rows t - 1) (i + 1)
  unlinked_more e = reached_more r h (rw (small_letter sh (omega linear) e))

  pub unlinked_refused : get_or s i 0 < 97 → refused 7 i ≡ unlinked_test t
  unfolding unlinked_test
  unlinked_refused e =
      let f : unlinked_fault t i ≡ 7 = rw (capital_letter sh (omega linear) e) in
      rw f at (reached_fault r h (λ k. omega (linear, sym f ∙ k)))

pub unlinked_accepted : (t : List ℤ) {i : ℕ} → Reached (unlinked_fault t) (rows t - 1) i → rows t - 1 ≤ i → accepted ≡ unlinked_test t
unfolding unlinked_test
unlinked_accepted t r h = reached_all r h

module _ (t : List ℤ) {n : ℕ} {k : Kind} (e : n ≡ rows t - 1) (h : k ≡ kind_of (field_number (word t n 0))) where
  pub script_refused : (k ≡ Kind.Script → ⊥) → refused 7 n ≡ script_test t
  unfolding script_test kind_of
  script_refused g = rw (script_at t (rows t - 1), ← e, no_kind _ 48 h g refl)

  pub script_accepted : k ≡ Kind.Script → accepted ≡ script_test t
  unfolding script_test
  script_accepted g = rw (script_at t (rows t - 1), ← e, is_kind _ h g refl)

-- ---- 8

module _ (t : List ℤ) {i n : ℕ} {q : Bool} (r : Reached (target_fault t) (rows t) i) (e : n ≡ rows t) (h : i < n) (k : q ≡ assigns_frozen t (fields (row t i))) where
  pub targets_more : q ≡ false → Reached (target_fault t) (rows t) (i + 1)
  targets_more z = reached_more r (omega linear) (rw (← k, z))

  pub targets_refused : q ≡ true → refused 8 i ≡ target_test t
  unfolding target_test
  targets_refused z =
      let f : target_fault t i ≡ 8 = rw (← k, z) in
      rw f at (reached_fault r (omega linear) (λ m. omega (linear, sym f ∙ m)))

pub targets_accepted : (t : List ℤ) {i : ℕ} → Reached (target_fault t) (rows t) i → rows t ≤ i → accepted ≡ target_test t
unfolding target_test
targets_accepted t r h = reached_all r h

-- ---- no marks and no frozen names below row i, where `found` says that none was found

pub record NamelessAt (t : List ℤ) (i : ℕ) (found : Bool) : Type 0 where
  pub at : found ≡ false → (k : ℕ) → k < i → named (row t k) ≡ false

abbrev pub Nameless : List ℤ → Type 0
Nameless t = (k : ℕ) → k < rows t → named (row t k) ≡ false

pub nameless_none : {t : List ℤ} → NamelessAt t 0 false
nameless_none = record { at = λ e k l. absurd (omega linear) }

pub nameless_more : {t : List ℤ} {i : ℕ} {found here found' : Bool} → NamelessAt t i found → here ≡ named (row t i)
    → found' ≡ (found || here) → NamelessAt t (i + 1) found'
nameless_more {t} {i} {found} {here} x h e = record { at = λ z k l. go (neither found here (sym e ∙ z)) k l (ℕ_discrete k i) }
  where
    neither : (p q : Bool) → p || q ≡ false → (p ≡ false) × (q ≡ false)
    neither true q d = absurd (true≢false d)
    neither false q d = (refl, d)

    go : (found ≡ false) × (here ≡ false) → (k : ℕ) → k < i + 1 → Dec (k ≡ i) → named (row t k) ≡ false
    go f k l (yes d) = rw (d, ← h) f.1
    go f k l (no d) = x.at f.0 k (omega linear)

pub nameless_all : {t : List ℤ} {i : ℕ} {found : Bool} → i ≤ rows t → rows t ≤ i → NamelessAt t i found → NamelessAt t (rows t) found
nameless_all {t} {i} h l x = let e : i ≡ rows t = omega linear in rw e at x
