-- 1 to 10, then 51; else the words above the rows are cleared. Assumes nothing.
use Rattle.std.proofs.Common.{sym, ap, refl, ◌∙◌, Ok, Err, rules, true, false}
use Rattle.std.proofs.lemmas.Result.{err_from_is_err_and}
use Rattle.machine.specs.declared.Refusal.TheVariants.{Short}
use Rattle.table.specs.Verdicts.{passes, refuses}
use Rattle.stepping.specs.Machine.{machine_on}
use Rattle.stepping.specs.Values.{mode_64}
use Rattle.machine.specs.Playing.{Told, answer_of}
use Rattle.machine.specs.Whole.{Tested, on_refused, on_short, on_begun, told_on}
use Rattle.machine.proofs.go_on.Goals as goal

-- ---- 1 to 10 and 51

pub returns-in_err-check : goal.returns-in_err-check
returns-in_err-check c =
    let p = err_from_is_err_and c.from_residual.result c.from_residual.ensures.1 in
    let a = c.args in
    let told : Told (machine_on mode_64 a.table.now a.stack.now a.variables.now a.marks.now a.limit a.height) (answer_of c.from_residual.result)
    a.stack.now a.variables.now a.marks.now =
    on_refused _ _ _ _ _ _ (refuses c.check.ensures (c.in_err-check.was {u = tt})) (ap answer_of (p.1 ∙ ap Err p.2)) in
    search rules

pub returns-then-too_short : goal.returns-then-too_short
returns-then-too_short c =
    let a = c.args in
    let tested : Tested a.table.now a.stack.now a.variables.now a.marks.now a.height true =
    record { checked = passes c.check.ensures (c.in_ok-check.was {u = tt}); tested = sym c.if-too_short.true ∙ (rw c.row_count.ensures at c.too_short.ensures) } in
    let told : Told (machine_on mode_64 a.table.now a.stack.now a.variables.now a.marks.now a.limit a.height) (answer_of (Err Short))
    a.stack.now a.variables.now a.marks.now =
    on_short _ _ _ _ _ _ tested refl in
    search rules

-- ---- words enough

pub play-requires : goal.play-requires
play-requires c =
    let a = c.args in
    let tested : Tested a.table.now a.stack.now a.variables.now a.marks.now a.height false =
    record { checked = passes c.check.ensures (c.in_ok-check.was {u = tt}); tested = sym c.if-too_short.false ∙ (rw c.row_count.ensures at c.too_short.ensures) } in
    on_begun tested c.clear.ensures

pub returns : goal.returns
returns c =
    let a = c.args in
    let tested : Tested a.table.now a.stack.now a.variables.now a.marks.now a.height false =
    record { checked = passes c.check.ensures (c.in_ok-check.was {u = tt}); tested = sym c.if-too_short.false ∙ (rw c.row_count.ensures at c.too_short.ensures) } in
    let told : Told (machine_on mode_64 a.table.now a.stack.now a.variables.now a.marks.now a.limit a.height) (answer_of (Ok c.play.result))
    c.play.new.stack c.play.new.variables c.play.new.marks =
    told_on tested c.clear.ensures a.limit c.play.ensures in
    search rules
