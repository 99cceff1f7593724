-- What holds of every refusal and of the plan of an accepted table holds of every outcome (`outcome_cases`): a refusal of a
-- table has a number from 1 to 10, and 11 and 12 are tested before the plan. Assumes nothing.
use Rattle.std.specs.Prelude.{ℕ, ◌≤◌, ◌≡◌, ◌≢◌, Bool, true, false, cond, List, ltb, ℤ, length}
use Rattle.std.proofs.Math.Path.{refl}
use Rattle.std.proofs.Common.{arith as linear, ltb-false}
use Rattle.script.specs.Conditions.{conditions}
use Rattle.script.specs.Words.{with_depth, list_words}
use Rattle.script.specs.Trees.{tree}
use Rattle.script.specs.Refusals.{Verdict, accepted, refused, verdict}
use Rattle.script.specs.Generated.{Outcome, refuse, plan, room, scratch_need, outcome_for, outcome, outcome_within}
use Rattle.theorems.specs.Numbers.{one_to_ten}

module _ (P : Outcome → Type 0) (table : List ℤ) (list scratch : ℕ) (refusals : (n r : ℕ) → n ≢ 0 → P (refuse n r list scratch))
    (planned : verdict table ≡ accepted → length (list_words with_depth (conditions (tree table))) ≤ room list → P (plan (conditions (tree table)) list scratch)) where
  of_tests : verdict table ≡ accepted → (a b : Bool) → ltb (room list) (length (list_words with_depth (conditions (tree table)))) ≡ b
      → P (cond a (refuse 11 0 list scratch) (cond b (refuse 12 0 list scratch) (plan (conditions (tree table)) list scratch)))
  of_tests h true b e = refusals 11 0 (λ z. omega linear)
  of_tests h false true e = refusals 12 0 (λ z. omega linear)
  of_tests h false false e = planned h (ltb-false (room list) _ e)

  of_verdict : (v : Verdict) → verdict table ≡ v
      → P (elim v [ refused n r ↦ refuse n r list scratch | accepted ↦ outcome_for (scratch_need table) (conditions (tree table)) list scratch ])
  unfolding outcome_for
  of_verdict accepted h = of_tests h (ltb scratch (scratch_need table)) _ refl
  of_verdict (refused n r) h = refusals n r (λ e. let k = one_to_ten table n r h in omega linear)

  pub outcome_cases : P (outcome table list scratch)
  unfolding outcome_within
  outcome_cases = of_verdict (verdict table) refl
