-- The whole answer (`whole_answer`), for every table, list length and scratch length: each number from 0 to 12 has its exact
-- occasion, with its row, and what both buffers then hold. `occasions` are those of 1 to 12 in the order of their tests, each
-- as 01 words it; a number is answered where its occasion arises and none of an earlier test does (`First`), and 0 where none
-- arises. Argument: the tests and their occasions are taken in step (`Tests`). Assumes nothing.
use Rattle.std.specs.Prelude.{ℕ, zero, suc, ◌≤◌, ◌<◌, ◌≡◌, refl, ◌↔◌, ◌≢◌, ◌⊎◌, List, [], ◌∷◌, Bool, true, false, cond, ℤ, length, ltb}
use Rattle.std.proofs.Common.{arith, sym, ◌∙◌, inl, inr, ⊎_elim}
use Rattle.std.proofs.Math.Path.{ap}
use borrow.Author.Tests.{ltb-true, lt-ltb}
use Rattle.script.specs.Rows.{rows, row}
use Rattle.script.specs.Trees.{tree, nesting}
use Rattle.script.specs.Conditions.{conditions}
use Rattle.script.specs.Words.{with_depth, list_words}
use Rattle.script.specs.Refusals.{Verdict, accepted, refused, ◌and_then◌, length_test, row_test, script_test, unlinked_test, target_test, reading_test, nesting_test, verdict, verdict_within}
use Rattle.script.specs.Generated.{Outcome, refuse, plan, room, scratch_need, outcome_for, outcome, outcome_within}
use Rattle.theorems.specs.Lowest.{Says, Lowest}
use Rattle.theorems.specs.Occasions.{Unlinked, unlinked_row, AssignsFrozen, frozen_target}
use Rattle.theorems.specs.Misplaced.{Misplaced, misplaced_name}
use Rattle.theorems.specs.Numbers.{BadLength, FaultyRow, fact_says, length_says, row_says, row_numbers, nesting_says}
use Rattle.theorems.specs.Outcomes.{outcome_cases}

-- ---- the statement

-- the occasions of the numbers k with the rows r that one test gives
abbrev pub Occasion : Type 1
Occasion = ℕ → ℕ → Type 0

-- in the order of the tests; those of 2 to 6 are a faulty row's
abbrev pub occasions : List ℤ → ℕ → ℕ → List Occasion
occasions t list scratch =
    (λ k r. (k ≡ 1) × (r ≡ 0) × BadLength (length t))
    ∷ FaultyRow t
    ∷ (λ k r. (k ≡ 7) × Unlinked t r)
    ∷ (λ k r. (k ≡ 8) × Lowest (λ q. AssignsFrozen (row t q)) (rows t) r)
    ∷ (λ k r. (k ≡ 9) × Lowest (Misplaced t) (rows t) r)
    ∷ (λ k r. (k ≡ 10) × (r ≡ 0) × (8 < nesting (tree t).body))
    ∷ (λ k r. (k ≡ 11) × (r ≡ 0) × (scratch < scratch_need t))
    ∷ (λ k r. (k ≡ 12) × (r ≡ 0) × (room list < length (list_words with_depth (conditions (tree t)))))
    ∷ []

-- an occasion of k with r arises, and none of an earlier test; where none arises at all, 0 with row 0
abbrev pub First : List Occasion → ℕ → ℕ → Type 0
First [] k r = (k ≡ 0) × (r ≡ 0)
First (O ∷ Os) k r = O k r ⊎ (((j q : ℕ) → ¬ O j q) × First Os k r)

-- the whole outcome with number k and row r: after 0 the list and zeros past it, after any other zeros alone
abbrev pub left : List ℤ → ℕ → ℕ → ℕ → ℕ → Outcome
left t list scratch zero r = plan (conditions (tree t)) list scratch
left t list scratch (suc k) r = refuse (suc k) r list scratch

pub record WholeAnswer (t : List ℤ) (list scratch : ℕ) : Type 0 where
  pub numbered : (k r : ℕ)
      → (((outcome t list scratch).answer.number ≡ k) × ((outcome t list scratch).answer.row ≡ r)) ↔ First (occasions t list scratch) k r
  pub leaves : outcome t list scratch ≡ left t list scratch (outcome t list scratch).answer.number (outcome t list scratch).answer.row

-- ---- tests with their occasions

abbrev number : Verdict → ℕ
number accepted = 0
number (refused k r) = k

abbrev row_in : Verdict → ℕ
row_in accepted = 0
row_in (refused k r) = r

data Tests : Verdict → List Occasion → Type 1 where
  done : Tests accepted []
  test : (v : Verdict) {w : Verdict} {O : Occasion} {Os : List Occasion} → Says v O → (v ≡ accepted → Tests w Os) → Tests (v and_then w) (O ∷ Os)

first_of : {v : Verdict} {Os : List Occasion} → Tests v Os → (k r : ℕ) → ((number v ≡ k) × (row_in v ≡ r)) ↔ First Os k r
first_of done k r = (λ h. (sym h.0, sym h.1), λ h. (sym h.0, sym h.1))
first_of (test accepted says rest) k r =
    let rest-says = first_of (rest refl) k r in
    let never : (j q : ℕ) → ¬ _ = λ j q o. clash ((says j q).1 o) in
    (λ h. inr (never, rest-says.0 h), ⊎_elim (λ o. absurd (never k r o)) (λ h. rest-says.1 h.1))
  where
    clash : {j q : ℕ} → accepted ≡ refused j q → ⊥
    clash e = let z : ◌≡◌ {A = ℕ} 0 1 = cc in omega arith
first_of (test (refused j q) says rest) k r =
    (λ h. inl ((says k r).0 (cc (h.0, h.1))), ⊎_elim (λ o. same ((says k r).1 o)) (λ h. absurd (h.0 j q ((says j q).0 refl))))
  where
    same : refused j q ≡ refused k r → (j ≡ k) × (q ≡ r)
    same e = (cc, cc)

-- ---- the verdict on the table, then those on the buffers

module _ (t : List ℤ) (list scratch : ℕ) where
  scratch_short : Bool
  scratch_short = ltb scratch (scratch_need t)

  list_long : Bool
  list_long = ltb (room list) (length (list_words with_depth (conditions (tree t))))

  buffers : Verdict
  buffers = cond scratch_short (refused 11 0) accepted and_then cond list_long (refused 12 0) accepted and_then accepted

  abbrev ended : Verdict → Outcome
  ended accepted = plan (conditions (tree t)) list scratch
  ended (refused k r) = refuse k r list scratch

  abbrev in_order : Verdict
  in_order =
      length_test t and_then row_test t and_then (script_test t and_then unlinked_test t) and_then target_test t
      and_then reading_test t and_then nesting_test t and_then buffers

  tested : Tests in_order (occasions t list scratch)
  unfolding buffers scratch_short list_long
  tested =
      test (length_test t) (length_says t) (λ e.
      test (row_test t) (row_says t) (λ ok.
      test (script_test t and_then unlinked_test t) (unlinked_row t) (λ e.
      test (target_test t) (frozen_target t) (λ e.
      test (reading_test t) (misplaced_name t ok) (λ e.
      test (nesting_test t) (nesting_says t) (λ e.
      test (cond scratch_short (refused 11 0) accepted) (fact_says scratch_short 11 0 (ltb-true scratch _, lt-ltb scratch _)) (λ e.
      test (cond list_long (refused 12 0) accepted) (fact_says list_long 12 0 (ltb-true (room list) _, lt-ltb (room list) _)) (λ e.
      done))))))))

  grouped : (a b c d e f g l : Verdict) → (a and_then b and_then c and_then d and_then e and_then f and_then g) and_then l
      ≡ a and_then b and_then (c and_then d) and_then e and_then f and_then g and_then l
  grouped (refused k r) b c d e f g l = refl
  grouped accepted (refused k r) c d e f g l = refl
  grouped accepted accepted (refused k r) d e f g l = refl
  grouped accepted accepted accepted (refused k r) e f g l = refl
  grouped accepted accepted accepted accepted (refused k r) f g l = refl
  grouped accepted accepted accepted accepted accepted (refused k r) g l = refl
  grouped accepted accepted accepted accepted accepted accepted g l = refl

  by_tests : (v : Verdict) (a b : Bool) → elim v [
    | refused k r ↦ refuse k r list scratch
    | accepted ↦ cond a (refuse 11 0 list scratch) (cond b (refuse 12 0 list scratch) (plan (conditions (tree t)) list scratch))
  ]
      ≡ ended (v and_then cond a (refused 11 0) accepted and_then cond b (refused 12 0) accepted and_then accepted)
  by_tests (refused k r) a b = refl
  by_tests accepted true b = refl
  by_tests accepted false true = refl
  by_tests accepted false false = refl

  outcome_is : outcome t list scratch ≡ ended in_order
  unfolding outcome_within outcome_for verdict_within buffers scratch_short list_long
  outcome_is =
      by_tests (verdict t) scratch_short list_long
      ∙ ap ended (grouped (length_test t) (row_test t) (script_test t) (unlinked_test t) (target_test t) (reading_test t) (nesting_test t) buffers)

  ended_number : (v : Verdict) → (ended v).answer.number ≡ number v
  ended_number accepted = refl
  ended_number (refused k r) = refl

  ended_row : (v : Verdict) → (ended v).answer.row ≡ row_in v
  ended_row accepted = refl
  ended_row (refused k r) = refl

  abbrev Leaves : Outcome → Type 0
  Leaves o = o ≡ left t list scratch o.answer.number o.answer.row

  refused_leaves : (k r : ℕ) → k ≢ 0 → Leaves (refuse k r list scratch)
  refused_leaves zero r h = absurd (h refl)
  refused_leaves (suc k) r h = refl

  pub whole_answer : WholeAnswer t list scratch
  whole_answer =
      let n = ap (λ (o : Outcome). o.answer.number) outcome_is ∙ ended_number in_order in
      let q = ap (λ (o : Outcome). o.answer.row) outcome_is ∙ ended_row in_order in
      record {
        numbered = λ k r.
            let f = first_of tested k r in
            (λ h. f.0 (sym n ∙ h.0, sym q ∙ h.1), λ h. let g = f.1 h in (n ∙ g.0, q ∙ g.1));
        leaves = outcome_cases Leaves t list scratch refused_leaves (λ h fits. refl);
      }

-- what follows from an occasion that arises, or from a later one
later : {A B C N : Type 0} → (A → C) → (B → C) → A ⊎ (N × B) → C
later f g = ⊎_elim f (λ h. g h.1)

pub zero_to_twelve : (t : List ℤ) (list scratch : ℕ) → (outcome t list scratch).answer.number ≤ 12
zero_to_twelve t list scratch =
    later (λ h. omega arith)
    (later (λ F. omega (arith, row_numbers t _ _ F))
    (later (λ h. omega arith)
    (later (λ h. omega arith)
    (later (λ h. omega arith)
    (later (λ h. omega arith)
    (later (λ h. omega arith)
    (later (λ h. omega arith) (λ h. omega arith))))))))
    (((whole_answer t list scratch).numbered _ _).0 (refl, refl))
