-- Each turn says of one row more what follows its parts.
use Rattle.std.proofs.Common.{◌≡◌, rules, refl, ◌-◌, ◌<◌, suc, arith, pos, length-set, to_z-of_z}
use Rattle.script.specs.declared.Row.{Row}
use Rattle.script.specs.declared.StatementRow.TheVariants.{Sequence, If, While}
use Rattle.script.specs.Rows.{field_number, row, rows, word}
use Rattle.script.specs.Kinds.{kind_of, number_read, other_read}
use Rattle.script.specs.Laws.{back}
use Rattle.theorems.specs.Accepted.{passed}
use Rattle.following.specs.Filling.{Filled, below_it, first_below, second_fits, second_below, sequence_filled, then_below, else_below, branch_filled, body_below, loop_filled, statement_below, script_filled}
use Rattle.following.specs.Kinds.{number, sequence_row, if_row, while_row, script_row, idle_filled}
use Rattle.following.proofs.find_follow.Goals as goal
use Rattle.following.proofs.find_follow.Goals.{After-kind_at, After-field-second, After-field-false_side, After-field-body, After-field-statement}

-- ---- the row at hand

inside : (c : After-kind_at) → c.loop-r.r - 1 < rows c.args.table.now
inside c = omega arith

filled : (c : After-kind_at) → Filled c.args.table.now c.loop-r.follow (suc (c.loop-r.r - 1))
filled c = below_it c.loop-r-test.true c.loop-r.invariant.1

-- ---- a sequence

sequence : (c : After-field-second) → row c.args.table.now (c.loop-r.r - 1) ≡ Row.Statement (Sequence (number c.field-first.result) (number c.field-second.result))
sequence c = sequence_row _ _ refl (number_read c.kind_at.ensures c.in-Sequence.is refl) c.field-first.ensures c.field-second.ensures

pub overflow_cast-follow : goal.overflow_cast-follow
overflow_cast-follow c =
    let a = goal.at.overflow_cast-follow c in
    second_fits _ (passed _ c.requires.0) (inside a.After-kind_at) (filled a.After-kind_at) (sequence a.After-field-second)

pub offset_bounds-follow-first : goal.offset_bounds-follow-first
offset_bounds-follow-first c =
    let a = goal.at.offset_bounds-follow-first c in
    let ok = passed _ c.requires.0 in
    let f = filled a.After-kind_at in
    omega (arith, first_below _ ok (inside a.After-kind_at) f (sequence a.After-field-second), f.long, ok.short)

pub bounds-follow-first : goal.bounds-follow-first
bounds-follow-first c =
    let a = goal.at.bounds-follow-first c in
    first_below _ (passed _ c.requires.0) (inside a.After-kind_at) (filled a.After-kind_at) (sequence a.After-field-second)

pub offset_bounds-follow-second : goal.offset_bounds-follow-second
offset_bounds-follow-second c =
    let a = goal.at.offset_bounds-follow-second c in
    let ok = passed _ c.requires.0 in
    let f = filled a.After-kind_at in
    omega (arith, rw length-set at (second_below _ ok (inside a.After-kind_at) f (sequence a.After-field-second) (pos 0)), f.long, ok.short)

pub bounds-follow-second : goal.bounds-follow-second
bounds-follow-second c =
    let a = goal.at.bounds-follow-second c in
    second_below _ (passed _ c.requires.0) (inside a.After-kind_at) (filled a.After-kind_at) (sequence a.After-field-second) _

pub loop-r-preserved-in-Sequence : goal.loop-r-preserved-in-Sequence
loop-r-preserved-in-Sequence c =
    let a = goal.at.loop-r-preserved-in-Sequence c in
    let ok = passed _ c.requires.0 in
    let h = inside a.After-kind_at in
    let f = filled a.After-kind_at in
    let e = sequence a.After-field-second in
    (omega arith, sequence_filled _ ok h f e (to_z-of_z (second_fits _ ok h f e)) (back (search rules)))

-- ---- a branch

branch : (c : After-field-false_side)
    → row c.args.table.now (c.loop-r.r - 1)
    ≡ Row.Statement (If (number (field_number (word c.args.table.now (c.loop-r.r - 1) 1))) (number c.field-true_side.result) (number c.field-false_side.result))
branch c = if_row _ _ refl (number_read c.kind_at.ensures c.in-If.is refl) refl c.field-true_side.ensures c.field-false_side.ensures

pub offset_bounds-follow-true_side : goal.offset_bounds-follow-true_side
offset_bounds-follow-true_side c =
    let a = goal.at.offset_bounds-follow-true_side c in
    let ok = passed _ c.requires.0 in
    let f = filled a.After-kind_at in
    omega (arith, then_below _ ok (inside a.After-kind_at) f (branch a.After-field-false_side), f.long, ok.short)

pub bounds-follow-true_side : goal.bounds-follow-true_side
bounds-follow-true_side c =
    let a = goal.at.bounds-follow-true_side c in
    then_below _ (passed _ c.requires.0) (inside a.After-kind_at) (filled a.After-kind_at) (branch a.After-field-false_side)

pub offset_bounds-follow-false_side : goal.offset_bounds-follow-false_side
offset_bounds-follow-false_side c =
    let a = goal.at.offset_bounds-follow-false_side c in
    let ok = passed _ c.requires.0 in
    let f = filled a.After-kind_at in
    omega (arith, rw length-set at (else_below _ ok (inside a.After-kind_at) f (branch a.After-field-false_side) (pos 0)), f.long, ok.short)

pub bounds-follow-false_side : goal.bounds-follow-false_side
bounds-follow-false_side c =
    let a = goal.at.bounds-follow-false_side c in
    else_below _ (passed _ c.requires.0) (inside a.After-kind_at) (filled a.After-kind_at) (branch a.After-field-false_side) _

pub loop-r-preserved-in-If : goal.loop-r-preserved-in-If
loop-r-preserved-in-If c =
    let a = goal.at.loop-r-preserved-in-If c in
    (omega arith, branch_filled _ (passed _ c.requires.0) (inside a.After-kind_at) (filled a.After-kind_at) (branch a.After-field-false_side) (back (search rules)) (back (search rules)))

-- ---- a loop, and the script

loop : (c : After-field-body)
    → row c.args.table.now (c.loop-r.r - 1)
    ≡ Row.Statement (While (number (field_number (word c.args.table.now (c.loop-r.r - 1) 1))) (number (field_number (word c.args.table.now (c.loop-r.r - 1) 2))) (number c.field-body.result))
loop c = while_row _ _ refl (number_read c.kind_at.ensures c.in-While.is refl) refl refl c.field-body.ensures

pub offset_bounds-follow-body : goal.offset_bounds-follow-body
offset_bounds-follow-body c =
    let a = goal.at.offset_bounds-follow-body c in
    let ok = passed _ c.requires.0 in
    let f = filled a.After-kind_at in
    omega (arith, body_below _ ok (inside a.After-kind_at) f (loop a.After-field-body), f.long, ok.short)

pub slice_set_of-follow : goal.slice_set_of-follow
slice_set_of-follow c =
    let a = goal.at.slice_set_of-follow c in
    body_below _ (passed _ c.requires.0) (inside a.After-kind_at) (filled a.After-kind_at) (loop a.After-field-body)

pub loop-r-preserved-in-While : goal.loop-r-preserved-in-While
loop-r-preserved-in-While c =
    let a = goal.at.loop-r-preserved-in-While c in
    (omega arith, loop_filled _ (passed _ c.requires.0) (inside a.After-kind_at) (filled a.After-kind_at) (loop a.After-field-body))

script : (c : After-field-statement)
    → row c.args.table.now (c.loop-r.r - 1)
    ≡ Row.Script (number (field_number (word c.args.table.now (c.loop-r.r - 1) 1))) (number c.field-statement.result) (number (field_number (word c.args.table.now (c.loop-r.r - 1) 3)))
script c = script_row _ _ refl (number_read c.kind_at.ensures c.in-Script.is refl) refl c.field-statement.ensures refl

pub offset_bounds-follow-statement : goal.offset_bounds-follow-statement
offset_bounds-follow-statement c =
    let a = goal.at.offset_bounds-follow-statement c in
    let ok = passed _ c.requires.0 in
    let f = filled a.After-kind_at in
    omega (arith, statement_below _ ok (inside a.After-kind_at) f (script a.After-field-statement), f.long, ok.short)

pub slice_set_of-follow-in-Script : goal.slice_set_of-follow-in-Script
slice_set_of-follow-in-Script c =
    let a = goal.at.slice_set_of-follow-in-Script c in
    statement_below _ (passed _ c.requires.0) (inside a.After-kind_at) (filled a.After-kind_at) (script a.After-field-statement)

pub loop-r-preserved-in-Script : goal.loop-r-preserved-in-Script
loop-r-preserved-in-Script c =
    let a = goal.at.loop-r-preserved-in-Script c in
    (omega arith, script_filled _ (passed _ c.requires.0) (inside a.After-kind_at) (filled a.After-kind_at) (script a.After-field-statement))

-- ---- rows with no statements as parts

pub loop-r-preserved : goal.loop-r-preserved
unfolding kind_of
loop-r-preserved c =
    let e = c.kind_at.ensures in
    let d = c.in_default in (
      omega arith,
      idle_filled _ _ (passed _ c.requires.0) (below_it c.loop-r-test.true c.loop-r.invariant.1) refl
          ((((tt, other_read e d.not-Sequence refl), other_read e d.not-If refl), other_read e d.not-While refl), other_read e d.not-Script refl),
    )
