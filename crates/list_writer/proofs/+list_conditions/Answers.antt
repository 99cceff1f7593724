-- Each turn lists a part of the statement at hand, by the laws of its kind.
use Rattle.std.proofs.Common.{ℕ, ◌≡◌, refl}
use Rattle.script.specs.declared.Row.{Row}
use Rattle.script.specs.declared.StatementRow.TheVariants.{Sequence, If}
use Rattle.script.specs.Rows.{field_number, row, word}
use Rattle.script.specs.Kinds.{kind_of, number_read, other_read}
use Rattle.following.specs.Kinds.{number, sequence_row, if_row}
use Rattle.list_writer.specs.Walks.{in_table, listed_at_full, leaf_lined, second_walking, first_lower, first_turned, then_walking, else_lower, else_turned}
use Rattle.list_writer.specs.Bodies.{guard_ready, exit_ready, floor_ready, body_walking, step_ready, loop_lined}
use Rattle.list_writer.proofs.+list_conditions.Goals as goal
use Rattle.list_writer.proofs.+list_conditions.Goals.{After-field-b, After-field-y}

-- ---- no room

pub returns : goal.returns
returns t c =
    listed_at_full _ _ _ _ c.loop-end.invariant (c.fits.ensures.1 c.loop-end-test.false)

pub kind_at-requires : goal.kind_at-requires
kind_at-requires t c =
    in_table _ _ _ _ c.loop-end.invariant

-- ---- a sequence

sequence : (t : ℕ) (c : After-field-b t) → row c.args.table.now c.loop-end.s ≡ Row.Statement (Sequence (number c.field-a.result) (number c.field-b.result))
sequence t c =
    sequence_row c.args.table.now c.loop-end.s refl (number_read c.kind_at.ensures c.in-Sequence.is refl) c.field-a.ensures c.field-b.ensures

pub list_conditions-requires : goal.list_conditions-requires
list_conditions-requires t c =
    let r = sequence t (goal.at.list_conditions-requires t c).After-field-b in
    second_walking _ _ _ _ c.loop-end.invariant r c.decreases

pub loop-end-smaller-in-Sequence : goal.loop-end-smaller-in-Sequence
loop-end-smaller-in-Sequence t c =
    let r = sequence t (goal.at.loop-end-smaller-in-Sequence t c).After-field-b in
    first_lower _ _ _ _ c.loop-end.invariant r

pub loop-end-preserved-in-Sequence : goal.loop-end-preserved-in-Sequence
loop-end-preserved-in-Sequence t c =
    let r = sequence t (goal.at.loop-end-preserved-in-Sequence t c).After-field-b in
    first_turned _ _ _ _ c.loop-end.invariant r c.list_conditions.ensures

-- ---- a branch

branch : (t : ℕ) (c : After-field-y t)
    → row c.args.table.now c.loop-end.s
    ≡ Row.Statement (If (number (field_number (word c.args.table.now c.loop-end.s 1))) (number c.field-x.result) (number c.field-y.result))
branch t c = if_row c.args.table.now c.loop-end.s refl (number_read c.kind_at.ensures c.in-If.is refl) refl c.field-x.ensures c.field-y.ensures

pub list_conditions-requires-in-If : goal.list_conditions-requires-in-If
list_conditions-requires-in-If t c =
    let r = branch t (goal.at.list_conditions-requires-in-If t c).After-field-y in
    then_walking _ _ _ _ c.loop-end.invariant r c.decreases

pub loop-end-smaller : goal.loop-end-smaller
loop-end-smaller t c =
    let r = branch t (goal.at.loop-end-smaller t c).After-field-y in
    else_lower _ _ _ _ c.loop-end.invariant r

pub loop-end-preserved : goal.loop-end-preserved
loop-end-preserved t c =
    let r = branch t (goal.at.loop-end-preserved t c).After-field-y in
    else_turned _ _ _ _ c.loop-end.invariant r c.list_conditions-in-If.ensures

-- ---- a loop

pub write_guard-requires : goal.write_guard-requires
write_guard-requires t c =
    guard_ready _ _ _ _ c.loop-end.invariant refl (number_read c.kind_at.ensures c.in-While.is refl)

pub write_exit-requires : goal.write_exit-requires
write_exit-requires t c =
    exit_ready _ _ _ _ c.loop-end.invariant refl (number_read c.kind_at.ensures c.in-While.is refl) c.write_guard.ensures

pub write_floor-requires : goal.write_floor-requires
write_floor-requires t c =
    floor_ready _ _ _ _ c.loop-end.invariant refl (number_read c.kind_at.ensures c.in-While.is refl) c.write_guard.ensures c.write_exit.ensures

pub list_conditions-requires-in-While : goal.list_conditions-requires-in-While
list_conditions-requires-in-While t c =
    body_walking _ _ _ _ c.loop-end.invariant refl (number_read c.kind_at.ensures c.in-While.is refl) c.write_guard.ensures c.write_exit.ensures
    c.write_floor.ensures c.field-body.ensures c.decreases

pub write_step-requires : goal.write_step-requires
write_step-requires t c =
    step_ready _ _ _ _ c.loop-end.invariant refl (number_read c.kind_at.ensures c.in-While.is refl) c.write_guard.ensures c.write_exit.ensures
    c.write_floor.ensures c.field-body.ensures c.list_conditions-in-While.ensures

pub returns-in-While : goal.returns-in-While
returns-in-While t c =
    loop_lined _ _ _ _ c.loop-end.invariant refl (number_read c.kind_at.ensures c.in-While.is refl) c.write_guard.ensures c.write_exit.ensures
    c.write_floor.ensures c.field-body.ensures c.list_conditions-in-While.ensures c.write_step.ensures

-- ---- skip, an assignment, an assertion

pub returns-in_default : goal.returns-in_default
unfolding kind_of
returns-in_default t c =
    leaf_lined _ _ _ _ c.loop-end.invariant refl (((tt, other_read c.kind_at.ensures c.in_default.not-Sequence refl), other_read c.kind_at.ensures c.in_default.not-If refl), other_read c.kind_at.ensures c.in_default.not-While refl)
