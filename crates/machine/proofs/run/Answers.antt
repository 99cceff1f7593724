-- 1 to 10, then 51; else all words of the stack are cleared, and the script's statement is put into the first. Assumes nothing.
use Rattle.std.proofs.Common.{sym, ap, refl, ◌∙◌, Ok, Err, rules, true, false, arith}
use Rattle.std.proofs.lemmas.Result.{err_from_is_err_and}
use Rattle.machine.specs.declared.Refusal.TheVariants.{Short}
use Rattle.table.specs.Verdicts.{passes, refuses}
use Rattle.stepping.specs.Machine.{machine_run}
use Rattle.stepping.specs.Values.{mode_64}
use Rattle.stepper.specs.Parts.{script_parts}
use Rattle.machine.specs.Playing.{Told, answer_of}
use Rattle.machine.specs.Whole.{Tested, run_refused, run_short, run_room, run_begun, told_run}
use Rattle.machine.proofs.run.Goals as goal

-- ---- 1 to 10 and 51

pub returns-in_err-check : goal.returns-in_err-check
returns-in_err-check c =
    let p = err_from_is_err_and c.from_residual.result c.from_residual.ensures.1 in
    let a = c.args in
    let told : Told (machine_run mode_64 a.table.now a.stack.now a.variables.now a.marks.now a.limit) (answer_of c.from_residual.result)
    a.stack.now a.variables.now a.marks.now =
    run_refused _ _ _ _ _ (refuses c.check.ensures (c.in_err-check.was {u = tt})) (ap answer_of (p.1 ∙ ap Err p.2)) in
    search rules

pub returns-then-too_short : goal.returns-then-too_short
returns-then-too_short c =
    let a = c.args in
    let tested : Tested a.table.now a.stack.now a.variables.now a.marks.now 0 true =
    record { checked = passes c.check.ensures (c.in_ok-check.was {u = tt}); tested = sym c.if-too_short.true ∙ (rw c.row_count-rows.ensures at c.too_short.ensures) } in
    let told : Told (machine_run mode_64 a.table.now a.stack.now a.variables.now a.marks.now a.limit) (answer_of (Err Short))
    a.stack.now a.variables.now a.marks.now =
    run_short _ _ _ _ _ tested refl in
    search rules

-- ---- words enough

pub overflow_sub-rows : goal.overflow_sub-rows
overflow_sub-rows c =
    let f = (script_parts _ (passes c.check.ensures (c.in_ok-check.was {u = tt}))).filled in
    rw c.row_count-rows.ensures (omega arith)

pub field-requires : goal.field-requires
field-requires c = (rw c.row_count-rows.ensures (script_parts _ (passes c.check.ensures (c.in_ok-check.was {u = tt}))).read, search rules)

pub overflow_cast-stack : goal.overflow_cast-stack
overflow_cast-stack c =
    let s = (script_parts _ (passes c.check.ensures (c.in_ok-check.was {u = tt}))).statement in
    let e = rw c.row_count-rows.ensures at c.field.ensures in
    omega arith

pub bounds-stack-0 : goal.bounds-stack-0
bounds-stack-0 c =
    let a = c.args in
    let tested : Tested a.table.now a.stack.now a.variables.now a.marks.now 0 false =
    record { checked = passes c.check.ensures (c.in_ok-check.was {u = tt}); tested = sym c.if-too_short.false ∙ (rw c.row_count-rows.ensures at c.too_short.ensures) } in
    run_room tested c.clear.ensures

pub play-requires : goal.play-requires
play-requires c =
    let a = c.args in
    let tested : Tested a.table.now a.stack.now a.variables.now a.marks.now 0 false =
    record { checked = passes c.check.ensures (c.in_ok-check.was {u = tt}); tested = sym c.if-too_short.false ∙ (rw c.row_count-rows.ensures at c.too_short.ensures) } in
    run_begun tested c.clear.ensures (rw c.row_count-rows.ensures at c.field.ensures)

pub returns : goal.returns
returns c =
    let a = c.args in
    let tested : Tested a.table.now a.stack.now a.variables.now a.marks.now 0 false =
    record { checked = passes c.check.ensures (c.in_ok-check.was {u = tt}); tested = sym c.if-too_short.false ∙ (rw c.row_count-rows.ensures at c.too_short.ensures) } in
    let told : Told (machine_run mode_64 a.table.now a.stack.now a.variables.now a.marks.now a.limit) (answer_of (Ok c.play.result))
    c.play.new.stack c.play.new.variables c.play.new.marks =
    told_run tested c.clear.ensures (rw c.row_count-rows.ensures at c.field.ensures) a.limit c.play.ensures in
    search rules
