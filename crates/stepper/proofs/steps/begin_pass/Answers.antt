-- By the value of the variant: the mark of the loop takes it, and the loop and its body are put on the stack. Assumes nothing.
use Rattle.std.proofs.Common.{refl, sym, ap, arith, rules, to_z-of_z, length-set}
use Rattle.std.proofs.lemmas.Result.{err_from_is_err_and}
use mir.Syntax.{w64}
use mir.Val.{SFits}
use Rattle.stepping.specs.Values.{got}
use Rattle.stepper.specs.Parts.{while_parts}
use Rattle.stepper.specs.Steps.{lent}
use Rattle.stepper.specs.Statements.{pass_room, pass_done, pass_stopped}
use Rattle.stepper.proofs.steps.begin_pass.Goals as goal

pub field-note-requires : goal.field-note-requires
field-note-requires c = ((while_parts _ c.requires.0.ready.checked _ c.requires.1.0).read, search rules)

pub field-body-requires : goal.field-body-requires
field-body-requires c = ((while_parts _ c.requires.0.ready.checked _ c.requires.1.0).read, search rules)

pub field-variant-requires : goal.field-variant-requires
field-variant-requires c = (rw c.field-note.ensures (while_parts _ c.requires.0.ready.checked _ c.requires.1.0).note_read, search rules)

pub value_at-requires : goal.value_at-requires
value_at-requires c =
    lent _ _ _ _ _ _ c.requires.0
    (rw (c.field-variant.ensures, c.field-note.ensures) (while_parts _ c.requires.0.ready.checked _ c.requires.1.0).variant)

-- ---- once the variant was worked out

pub overflow_cast-stack : goal.overflow_cast-stack
overflow_cast-stack c = let l = (while_parts _ c.requires.0.ready.checked _ c.requires.1.0).here in omega arith

pub bounds-stack-left : goal.bounds-stack-left
bounds-stack-left c =
    let l = pass_room _ _ _ _ _ _ c.requires.0 c.requires.1.1 c.field-note.ensures c.field-body.ensures c.field-variant.ensures
    c.in_ok-marks.ensures refl c.take_next-left.ensures in
    omega arith

pub overflow_cast-stack-2 : goal.overflow_cast-stack-2
overflow_cast-stack-2 c =
    let b = (while_parts _ c.requires.0.ready.checked _ c.requires.1.0).body in
    let e = c.field-body.ensures in
    omega arith

pub bounds-stack-left-2 : goal.bounds-stack-left-2
bounds-stack-left-2 c =
    rw length-set (pass_room _ _ _ _ _ _ c.requires.0 c.requires.1.1 c.field-note.ensures c.field-body.ensures c.field-variant.ensures
    c.in_ok-marks.ensures refl c.take_next-left.ensures)

pub returns : goal.returns
returns c =
    let f : SFits w64 c.in_ok-marks.field-0 = search rules in
    pass_done _ _ _ _ _ _ c.requires.0 c.requires.1.1 c.field-note.ensures c.field-body.ensures c.field-variant.ensures c.in_ok-marks.ensures
    (ap got (sym (to_z-of_z f))) c.take_next-left.ensures

pub returns-in_err-marks : goal.returns-in_err-marks
returns-in_err-marks c =
    let p = err_from_is_err_and c.from_residual.result c.from_residual.ensures.1 in
    rw (p.1, p.2) (pass_stopped _ _ _ _ _ _ c.requires.0 c.requires.1.1 c.field-note.ensures c.field-body.ensures c.field-variant.ensures c.in_err-marks.ensures refl)
