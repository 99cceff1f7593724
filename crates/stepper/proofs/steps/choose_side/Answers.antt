-- By the truth of the guard: the side that is taken is put on the stack. Assumes nothing.
use Rattle.std.proofs.Common.{refl, arith, rules}
use Rattle.std.proofs.lemmas.Result.{err_from_is_err_and}
use Rattle.stepper.specs.Parts.{if_parts}
use Rattle.stepper.specs.Steps.{lent}
use Rattle.stepper.specs.Statements.{side_small, if_room, if_done, if_stopped}
use Rattle.stepper.proofs.steps.choose_side.Goals as goal

pub field-guard-requires : goal.field-guard-requires
field-guard-requires c = ((if_parts _ c.requires.0.ready.checked _ c.requires.1).read, search rules)

pub truth_at-requires : goal.truth_at-requires
truth_at-requires c = lent _ _ _ _ _ _ c.requires.0 (rw c.field-guard.ensures (if_parts _ c.requires.0.ready.checked _ c.requires.1).guard)

-- ---- once it was judged

pub side-side-requires : goal.side-side-requires
side-side-requires c = (if_parts _ c.requires.0.ready.checked _ c.requires.1).read

pub overflow_cast-stack : goal.overflow_cast-stack
overflow_cast-stack c =
    let s = side_small (if_parts _ c.requires.0.ready.checked _ c.requires.1) c.in_ok-holds.holds c.side-side.ensures in
    omega arith

pub bounds-stack-left : goal.bounds-stack-left
bounds-stack-left c =
    if_room _ _ _ _ _ _ c.requires.0 c.requires.1 c.field-guard.ensures c.in_ok-holds.ensures refl c.side-side.ensures
    c.take_next-left.ensures

pub returns : goal.returns
returns c =
    if_done _ _ _ _ _ _ c.requires.0 c.requires.1 c.field-guard.ensures c.in_ok-holds.ensures refl c.side-side.ensures
    c.take_next-left.ensures

pub returns-in_err-holds : goal.returns-in_err-holds
returns-in_err-holds c =
    let p = err_from_is_err_and c.from_residual.result c.from_residual.ensures.1 in
    rw (p.1, p.2) (if_stopped _ _ _ _ _ _ c.requires.0 c.requires.1 c.field-guard.ensures c.in_err-holds.ensures refl)
