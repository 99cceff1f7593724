-- The hypotheses of P11's theorems on proved scripts can hold with a list whose validity is used: 01's example A as a text, whose four
-- conditions are true in all states (the `Witness` of `smt`), from the start with v0 = 3, where the loop's body is begun three times.
-- By `machine_text` and by `safe_64` the call is safe (`text_safe`, `list_safe`), by `proved_enough_64` its limit of 9 is not spent
-- (`list_enough`); by computation it answers 0 after 7 steps (the `Witness` of `stepping`), so that v0 = 0 there (`ends_well`).
-- Assumes nothing.
use Rattle.std.specs.Prelude.{◌≢◌, T}
use Rattle.std.proofs.Common.{arith as linear}
use Rattle.script.specs.Computed.{◌⨾◌, example, example_a}
use Rattle.script.specs.Meaning.{whole, value, holds}
use Rattle.script.specs.Rows.{row, row_of}
use Rattle.script.specs.Trees.{expr, formula, stmt, expr_at, formula_at, stmt_at, tree}
use Rattle.script.specs.Generated.{Outcome, outcome}
use Rattle.theorems.specs.Demand.{demand_3}
use Rattle.stepping.specs.Machine.{mode_64, state_of, machine_run}
use Rattle.stepping.specs.Proved.{Safe, safe_64}
use Rattle.stepping.specs.EnoughSteps.{proved_enough_64}
use Rattle.stepping.specs.Witness.{vars, marks, stack, arrivals, bound, computed}
use Rattle.smt.specs.Witness.{planned, list_valid}
use Rattle.grammar.specs.Grammar.{Phrase}
use Rattle.grammar.specs.Meaning.{text_tree}
use Rattle.text_claims.specs.Reading.{Reading}
use Rattle.text_claims.specs.MachineRuns.{SafeCalls, machine_text}
use Rattle.text_claims.specs.Witness.{text, is_read}

-- ---- from the text

pub text_safe : (x : Phrase) → Reading text x → SafeCalls mode_64 example_a (text_tree x)
text_safe x r = machine_text 80 text example_a is_read 98 282 planned.0 x r mode_64 list_valid

-- ---- from demand 3

abbrev left : Outcome
left = outcome example_a 98 282

-- 0 <= 3
pub meets : T (holds whole (state_of vars marks) (tree example_a).pre)
unfolding example_a example ◌⨾◌ vars marks row row_of expr formula stmt expr_at formula_at stmt_at tree holds value
meets = tt

pub list_safe : Safe whole example_a (machine_run mode_64 example_a stack vars marks 9)
list_safe = safe_64 example_a left.answer left.list (demand_3 example_a 98 282) planned.0 list_valid stack vars marks 9 meets

pub list_enough : (machine_run mode_64 example_a stack vars marks 9).number ≢ 54
list_enough =
    proved_enough_64 example_a left.answer left.list (demand_3 example_a 98 282) planned.0 list_valid stack vars marks 9 3 meets arrivals
    (let b = bound in omega linear)

-- the postcondition holds where it ended
pub ends_well : let a = machine_run mode_64 example_a stack vars marks 9 in
    T (holds whole (state_of a.vars a.marks) (tree example_a).post)
ends_well = list_safe.post computed.0
