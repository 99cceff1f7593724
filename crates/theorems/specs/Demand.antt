-- Demand 3 of what the generator answers and leaves, for every table, list and scratch: `demand_3`. The same for any arithmetic,
-- in which the conditions are true and the script runs: `keeps`.
-- Argument: the number is 0 only where the table is accepted and the list was written (`Outcomes`). Its words are those of the
-- conditions, a well-formed list, which is read as it was written (`planned_list`); the tree of an accepted table is well-scoped,
-- and the rules are sound. Assumes nothing.
use Rattle.std.specs.Prelude.{ℕ, ◌≤◌, ◌<◌, ◌≡◌, refl, ◌≢◌, List, T, ℤ, length, take}
use Rattle.std.proofs.Common.{sym, ap, subst, arith as linear, length-append}
use Rattle.std.proofs.Math.Option.{some}
use Rattle.std.proofs.Math.Seq.{take-append_seam}
use Rattle.script.specs.Syntax.{Tree}
use Rattle.script.specs.Meaning.{Arithmetic, State, whole, holds}
use Rattle.script.specs.Run.{TotalCorrectness}
use Rattle.script.specs.Conditions.{walk, conditions}
use Rattle.script.specs.Words.{with_depth, list_words}
use Rattle.script.specs.Trees.{tree}
use Rattle.script.specs.WellFormed.{AllInRange, WellFormed}
use Rattle.script.specs.Listing.{read_list}
use Rattle.script.specs.Refusals.{accepted, verdict}
use Rattle.script.specs.Generated.{Outcome, refuse, plan, room, outcome}
use Rattle.script.specs.Promise.{ListValid, Demand3}
use Rattle.theorems.specs.Outcomes.{outcome_cases}
use Rattle.theorems.specs.Sound.{sound}
use Rattle.theorems.specs.ReadBack.{form_written, read_written}
use Rattle.theorems.specs.Scoped.{scoped}
use Rattle.theorems.specs.InRange.{in_range_conditions}

-- ---- the list of an accepted table

pub some_conditions : (t : Tree) → 0 < length (conditions t)
unfolding conditions
some_conditions t = rw (length-append (walk 0 t.body t.post) _) (omega linear)

pub well_formed : (t : List ℤ) (list : ℕ) → verdict t ≡ accepted → length (list_words with_depth (conditions (tree t))) ≤ room list
    → WellFormed (list_words with_depth (conditions (tree t))) (conditions (tree t))
well_formed t list h fits =
    let cs = conditions (tree t) in
    let many = some_conditions (tree t) in
    let form = form_written with_depth cs many in
    record {
      spells = ap (λ f. list_words f cs) form;
      short = omega linear;
      counted = many;
      ranges = subst (λ f. AllInRange f cs) (sym form) (in_range_conditions t h);
    }

-- ---- what is left where the number is 0

-- the check accepts the table, the words left are the list of its conditions and read as these, and the answer tells how many
-- they are
pub record PlannedList (table : List ℤ) (o : Outcome) : Type 0 where
  pub accepts : verdict table ≡ accepted
  pub words : take o.answer.words o.list ≡ list_words with_depth (conditions (tree table))
  pub reads : read_list (take o.answer.words o.list) ≡ some (conditions (tree table))
  pub counts : o.answer.conditions ≡ length (conditions (tree table))

module _ (table : List ℤ) (list scratch : ℕ) where
  abbrev IfPlanned : Outcome → Type 0
  IfPlanned o = o.answer.number ≡ 0 → PlannedList table o

  refused_planned : (n r : ℕ) → n ≢ 0 → IfPlanned (refuse n r list scratch)
  refused_planned n r h e = absurd (h e)

  plan_planned : verdict table ≡ accepted → length (list_words with_depth (conditions (tree table))) ≤ room list
      → IfPlanned (plan (conditions (tree table)) list scratch)
  plan_planned h fits e =
      let cs = conditions (tree table) in
      record {
        accepts = h;
        words = take-append_seam (list_words with_depth cs) _;
        reads = rw take-append_seam (read_written (list_words with_depth cs) cs (well_formed table list h fits));
        counts = refl;
      }

  pub planned_list : (outcome table list scratch).answer.number ≡ 0 → PlannedList table (outcome table list scratch)
  planned_list = outcome_cases IfPlanned table list scratch refused_planned plan_planned

  -- ---- demand 3

  -- where the conditions are true in all states of an arithmetic, runs in this arithmetic keep the promise
  pub keeps : (𝔸 : Arithmetic) → let o = outcome table list scratch in
      o.answer.number ≡ 0 → ListValid 𝔸 (take o.answer.words o.list)
      → (s : State) → T (holds 𝔸 s (tree table).pre) → TotalCorrectness 𝔸 (tree table) s
  keeps 𝔸 e valid =
      let p = planned_list e in
      sound 𝔸 (tree table) (scoped table p.accepts) (valid (conditions (tree table)) p.reads)

  pub demand_3 : Demand3 table (outcome table list scratch).answer (outcome table list scratch).list
  unfolding Demand3
  demand_3 = keeps whole
