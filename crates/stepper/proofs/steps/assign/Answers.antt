-- By the value of the expression; the variable takes it. Assumes nothing.
use Rattle.std.proofs.Common.{refl, sym, ap, arith, rules, to_z-of_z}
use Rattle.std.proofs.lemmas.Result.{err_from_is_err_and}
use mir.Syntax.{w64}
use mir.Val.{SFits}
use Rattle.stepping.specs.Values.{got}
use Rattle.stepper.specs.Parts.{assign_parts}
use Rattle.stepper.specs.Steps.{lent}
use Rattle.stepper.specs.Statements.{assign_done, assign_stopped}
use Rattle.stepper.proofs.steps.assign.Goals as goal

pub field-variable-requires : goal.field-variable-requires
field-variable-requires c = ((assign_parts _ c.requires.0.ready.checked _ c.requires.1).read, search rules)

pub field-expression-requires : goal.field-expression-requires
field-expression-requires c = ((assign_parts _ c.requires.0.ready.checked _ c.requires.1).read, search rules)

pub value_at-requires : goal.value_at-requires
value_at-requires c =
    lent _ _ _ _ _ _ c.requires.0 (rw c.field-expression.ensures (assign_parts _ c.requires.0.ready.checked _ c.requires.1).value)

-- ---- once it was worked out

pub offset_bounds-variables-variable : goal.offset_bounds-variables-variable
offset_bounds-variables-variable c =
    let p = (assign_parts _ c.requires.0.ready.checked _ c.requires.1).variable in
    let e = c.field-variable.ensures in
    omega arith

pub bounds-variables-variable : goal.bounds-variables-variable
bounds-variables-variable c =
    let p = (assign_parts _ c.requires.0.ready.checked _ c.requires.1).variable in
    let e = c.field-variable.ensures in
    let v = c.requires.0.all_variables in
    omega arith

pub returns : goal.returns
returns c =
    let f : SFits w64 c.in_ok-variables.field-0 = search rules in
    assign_done _ _ _ _ _ _ c.requires.0 c.requires.1 c.field-variable.ensures c.field-expression.ensures c.in_ok-variables.ensures
    (ap got (sym (to_z-of_z f))) c.take_next.ensures

pub returns-in_err-variables : goal.returns-in_err-variables
returns-in_err-variables c =
    let p = err_from_is_err_and c.from_residual.result c.from_residual.ensures.1 in
    rw (p.1, p.2) (assign_stopped _ _ _ _ _ _ c.requires.0 c.requires.1 c.field-variable.ensures c.field-expression.ensures c.in_err-variables.ensures refl)
