-- 02, P8: "The same lists must come from 2 × rows scratch words, whatever the room". The rule of 01 for scratch is stated again
-- (`outcome₁`), and the two are compared for every table, list length and scratch length. 11 comes exactly where an accepted
-- table has too little scratch (`eleven`). Where neither gives 11, they give the same outcome (`same_outcome`), so where both plan,
-- the same list (`same_plan`); what was planned with any scratch is planned alike with 2 × rows words (`planned_still`). 11 alone
-- comes and goes, as 02 says (`from_11`, `to_11`), and each such move occurs (`moves`). 4,096 words are enough for every table
-- (`enough_for_all`), the program answers as before (`program_same`), and no other need has the same occasions of 11 (`only_need`).
-- Argument: but for 11, an outcome does not depend on the need (`rest`). Assumes nothing.
use Rattle.std.specs.Prelude.{ℕ, ◌+◌, ◌*◌, ◌≤◌, ◌<◌, ◌↔◌, ◌⊎◌, ◌≢◌, Bool, cond, List, ℤ, length}
use native.Mathlib.Omega.{arith as linear}
use Rattle.std.proofs.Math.Path.{◌≡◌, refl}
use Rattle.std.proofs.Common.{sym, ap, ◌∙◌, inl, inr}
use Rattle.std.proofs.Math.Bool.{true, false}
use borrow.Author.Tests.{ltb-true, ltb-false}
use Rattle.std.proofs.Math.Dec.{ltb}
use Rattle.script.specs.Conditions.{conditions, walk, wp, divisors, divisorsᶠ, subst_expr, subst_formula}
use Rattle.script.specs.Words.{with_depth, list_words, all_lines, line_words, expr_words, formula_words}
use Rattle.script.specs.Rows.{row, row_of}
use Rattle.script.specs.Trees.{tree, nesting, expr, formula, stmt, expr_at, formula_at, stmt_at}
use Rattle.script.specs.Refusals.{Verdict, accepted, refused, verdict, verdict_within, length_test, row_test_within, script_test, unlinked_test, target_test, reading_test, nesting_test, lowest, row_fault_within, linked, misread, misreads}
use Rattle.script.specs.Generated.{Outcome, refuse, plan, room, scratch_need, outcome_for, outcome, outcome_within}
use Rattle.script.specs.Computed.{◌⨾◌, example, example_a, four_rows, four_skips}
use Rattle.theorems.specs.Accepted.{passed}
use Rattle.theorems.specs.Numbers.{one_to_ten}
use Rattle.theorems.specs.Unchanged.{Undivided, conditions₀}
use Rattle.theorems.specs.NoDivision.{outcome_by, same_by}

-- ---- the rule of 01

-- "Scratch must hold (nesting + 2) × room words."
abbrev pub scratch_need₁ : List ℤ → ℕ → ℕ
scratch_need₁ table list = (nesting (tree table).body + 2) * room list

unfoldable pub outcome₁ : List ℤ → ℕ → ℕ → Outcome
outcome₁ table list scratch = outcome_by conditions (scratch_need₁ table list) table list scratch

-- 02, P5, by that rule: what has no div or mod was answered so before P5 too
pub before_division : (table : List ℤ) (list scratch : ℕ) → (verdict table ≡ accepted → Undivided (tree table).body)
    → outcome₁ table list scratch ≡ outcome_by conditions₀ (scratch_need₁ table list) table list scratch
unfolding outcome₁
before_division table list scratch u = same_by (scratch_need₁ table list) table list scratch u

abbrev pub number : Outcome → ℕ
number o = o.answer.number

module _ (table : List ℤ) (list scratch : ℕ) where
  abbrev pub before : Outcome
  before = outcome₁ table list scratch

  abbrev pub now : Outcome
  now = outcome table list scratch

  -- ---- but for 11

  abbrev by_room : Bool → Outcome
  by_room b = cond b (refuse 12 0 list scratch) (plan (conditions (tree table)) list scratch)

  abbrev too_long : Bool
  too_long = ltb (room list) (length (list_words with_depth (conditions (tree table))))

  abbrev fitted : Outcome
  fitted = by_room too_long

  rest_of : Verdict → Outcome
  rest_of (refused n r) = refuse n r list scratch
  rest_of accepted = fitted

  abbrev rest : Outcome
  rest = rest_of (verdict table)

  abbrev ZeroOr12 : Outcome → Type 0
  ZeroOr12 o = (number o ≡ 0) ⊎ (number o ≡ 12)

  fits_or_not : (b : Bool) → ZeroOr12 (by_room b)
  fits_or_not true = inr refl
  fits_or_not false = inl refl

  accepted_rest : verdict table ≡ accepted → ZeroOr12 rest
  unfolding rest_of
  accepted_rest e = rw e (fits_or_not too_long)

  not_11 : {n : ℕ} → (n ≡ 0) ⊎ (n ≡ 12) → n ≢ 11
  not_11 (inl z) e = omega linear
  not_11 (inr z) e = omega linear

  rest_not_11 : number rest ≢ 11
  unfolding rest_of
  rest_not_11 = by (verdict table) refl
    where
      by : (v : Verdict) → verdict table ≡ v → number (rest_of v) ≢ 11
      by (refused n r) h e = let k = one_to_ten table n r h in omega linear
      by accepted h e = not_11 (fits_or_not too_long) e

  -- ---- with 11, where so much scratch is needed

  data Under (need : ℕ) (o : Outcome) : Type 0 where
    short : verdict table ≡ accepted → scratch < need → o ≡ refuse 11 0 list scratch → Under need o
    enough : (verdict table ≡ accepted → need ≤ scratch) → o ≡ rest → Under need o

  under : (need : ℕ) (v : Verdict) → verdict table ≡ v
      → Under need (elim v [ refused n r ↦ refuse n r list scratch | accepted ↦ outcome_for need (conditions (tree table)) list scratch ])
  unfolding outcome_for rest_of
  under need (refused n r) h = enough (λ e. absurd (apart (sym h ∙ e))) (rw h)
    where
      apart : refused n r ≡ accepted → ⊥
      apart e = let z : ◌≡◌ {A = ℕ} 0 1 = cc in omega linear
  under need accepted h = by (ltb scratch need) refl
    where
      by : (b : Bool) → ltb scratch need ≡ b → Under need (cond b (refuse 11 0 list scratch) fitted)
      by true e = short h (ltb-true scratch need e) refl
      by false e = enough (λ k. ltb-false scratch need e) (rw h)

  before_under : Under (scratch_need₁ table list) before
  unfolding outcome₁
  before_under = under (scratch_need₁ table list) (verdict table) refl

  now_under : Under (scratch_need table) now
  unfolding outcome_within
  now_under = under (scratch_need table) (verdict table) refl

  exactly : {need : ℕ} {o : Outcome} → Under need o → (number o ≡ 11) ↔ ((verdict table ≡ accepted) × (scratch < need))
  exactly (short h k e) = (λ z. (h, k), λ z. ap number e)
  exactly (enough h e) = (λ z. absurd (rest_not_11 (sym (ap number e) ∙ z)), λ z. absurd (no (h z.0) z.1))
    where
      no : {a b : ℕ} → a ≤ b → b < a → ⊥
      no i j = omega linear

  otherwise : {need : ℕ} {o : Outcome} → Under need o → number o ≢ 11 → o ≡ rest
  otherwise (short h k e) z = absurd (z (ap number e))
  otherwise (enough h e) z = e

  -- an accepted table has 11 or no table's number
  of_accepted : {need : ℕ} {o : Outcome} → verdict table ≡ accepted → Under need o → (number o ≡ 11) ⊎ ZeroOr12 o
  of_accepted h (short i k e) = inl (ap number e)
  of_accepted h (enough k e) = inr (rw e (accepted_rest h))

  -- ---- both rules

  -- "11 when scratch is below that", whatever the room
  pub eleven : (number now ≡ 11) ↔ ((verdict table ≡ accepted) × (scratch < scratch_need table))
  eleven = exactly now_under

  pub same_outcome : number before ≢ 11 → number now ≢ 11 → before ≡ now
  same_outcome h k = otherwise before_under h ∙ sym (otherwise now_under k)

  -- "The same lists"
  pub same_plan : number before ≡ 0 → number now ≡ 0 → before ≡ now
  same_plan h k = same_outcome (λ e. omega linear) (λ e. omega linear)

  -- "calls that got 11 may now be planned or get 12"
  pub from_11 : number before ≡ 11 → (number now ≡ 11) ⊎ ZeroOr12 now
  from_11 h = of_accepted ((exactly before_under).0 h).0 now_under

  -- "calls with small room for their rows, planned or 12 before, may get 11"
  pub to_11 : number now ≡ 11 → number before ≢ 11 → ZeroOr12 before × (scratch_need₁ table list < scratch_need table)
  to_11 h k = by before_under
    where
      by : Under (scratch_need₁ table list) before → ZeroOr12 before × (scratch_need₁ table list < scratch_need table)
      by (short i j e) = absurd (k (ap number e))
      by (enough i e) =
          let n = eleven.0 h in
          let m = i n.0 in
          let s = n.1 in
          (rw e (accepted_rest n.0), omega linear)

  -- as much as 2,048 rows need
  pub enough_for_all : 4096 ≤ scratch → number now ≢ 11
  enough_for_all h e =
      let n = eleven.0 e in
      let s = n.1 in
      let k = (passed table n.0).short in
      omega linear

-- ---- "The same lists must come from 2 × rows scratch words": whatever scratch each rule is lent

abbrev pub Alike : Outcome → Outcome → Type 0
Alike o p = (o.answer ≡ p.answer) × (o.list ≡ p.list)

module _ (table : List ℤ) (list old new : ℕ) where
  fits_alike : (b : Bool) → Alike (by_room table list old b) (by_room table list new b)
  fits_alike true = (refl, refl)
  fits_alike false = (refl, refl)

  rest_alike : (v : Verdict) → Alike (rest_of table list old v) (rest_of table list new v)
  unfolding rest_of
  rest_alike (refused n r) = (refl, refl)
  rest_alike accepted = fits_alike (too_long table list old)

  -- but for 11, with any two lengths of scratch
  pub same_words : number (outcome₁ table list old) ≢ 11 → number (outcome table list new) ≢ 11
      → Alike (outcome₁ table list old) (outcome table list new)
  same_words h k =
      let a = otherwise table list old (before_under table list old) h in
      let b = otherwise table list new (now_under table list new) k in
      let c = rest_alike (verdict table) in
      (rw (a, b) c.0, rw (a, b) c.1)

  -- what was planned is planned with 2 × rows words
  pub planned_still : number (outcome₁ table list old) ≡ 0 → scratch_need table ≤ new
      → Alike (outcome₁ table list old) (outcome table list new)
  planned_still h k = same_words (λ e. omega linear) (λ e. let s = ((eleven table list new).0 e).1 in omega linear)

-- ---- "with room 512 and scratch 5,120": the program answers as before, whatever it reads

pub program_same : (table : List ℤ) → outcome₁ table 512 5120 ≡ outcome table 512 5120
program_same table = same_outcome table 512 5120 not_before (enough_for_all table 512 5120 (omega linear))
  where
    not_before : number (outcome₁ table 512 5120) ≢ 11
    not_before e =
        let n = (exactly table 512 5120 (before_under table 512 5120)).0 e in
        let d = (passed table n.0).shallow in
        let s : 5120 < (nesting (tree table).body + 2) * 512 = n.1 in
        omega linear

-- ---- no other need gives 11 on the same occasions

itself : {n : ℕ} → n < n → ⊥
itself h = omega linear

pub only_need : (table : List ℤ) (list need : ℕ) → verdict table ≡ accepted
    → ((scratch : ℕ) → (number (outcome table list scratch) ≡ 11) ↔ (scratch < need)) → need ≡ scratch_need table
only_need table list need ok says =
    let a : need < scratch_need table → ⊥ = λ h. itself ((says need).0 ((eleven table list need).1 (ok, h))) in
    let b : scratch_need table < need → ⊥ = λ h. itself ((eleven table list (scratch_need table)).0 ((says (scratch_need table)).1 h)).1 in
    omega linear

-- ---- each move occurs

abbrev pub numbers : List ℤ → ℕ → ℕ → ℕ × ℕ
numbers table list scratch = (number (outcome₁ table list scratch), number (outcome table list scratch))

pub record Moves : Type 0 where
  pub from_11_to_plan : numbers example_a 98 281 ≡ (11, 0)
  pub four_rows_from_11 : numbers four_rows 8 13 ≡ (11, 0)
  pub from_11_to_12 : numbers example_a 97 278 ≡ (11, 12)
  pub from_plan_to_11 : numbers four_skips 8 16 ≡ (0, 11)
  pub from_12_to_11 : numbers four_rows 0 0 ≡ (12, 11)
  pub stays_11 : numbers example_a 98 39 ≡ (11, 11)
  pub stays_planned : numbers example_a 98 294 ≡ (0, 0)
  pub stays_12 : numbers example_a 97 291 ≡ (12, 12)

pub moves : Moves
unfolding outcome₁ example_a example four_rows four_skips ◌⨾◌ outcome_within outcome_for verdict_within length_test row_test_within script_test unlinked_test target_test reading_test nesting_test lowest row_fault_within linked misread misreads row row_of expr formula stmt expr_at formula_at stmt_at tree nesting conditions walk wp divisors divisorsᶠ subst_expr subst_formula list_words all_lines line_words expr_words formula_words
moves = record {
  from_11_to_plan = refl;
  four_rows_from_11 = refl;
  from_11_to_12 = refl;
  from_plan_to_11 = refl;
  from_12_to_11 = refl;
  stays_11 = refl;
  stays_planned = refl;
  stays_12 = refl;
}
