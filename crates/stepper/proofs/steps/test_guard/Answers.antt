-- By the truth of the guard. Assumes nothing.
use Rattle.std.proofs.Common.{refl, ap, rules}
use Rattle.std.proofs.lemmas.Result.{err_from_is_err_and}
use Rattle.stepping.specs.Values.{got}
use Rattle.stepper.specs.Parts.{while_parts}
use Rattle.stepper.specs.Steps.{lent}
use Rattle.stepper.specs.Statements.{while_passes, while_done, while_stopped}
use Rattle.stepper.proofs.steps.test_guard.Goals as goal

pub field-guard-requires : goal.field-guard-requires
field-guard-requires c = ((while_parts _ c.requires.0.ready.checked _ c.requires.1).read, search rules)

pub truth_at-requires : goal.truth_at-requires
truth_at-requires c = lent _ _ _ _ _ _ c.requires.0 (rw c.field-guard.ensures (while_parts _ c.requires.0.ready.checked _ c.requires.1).guard)

-- ---- once it was judged

pub begin_pass-requires : goal.begin_pass-requires
begin_pass-requires c = (
  c.requires.0,
  (
    c.requires.1,
    while_passes _ _ _ _ _ _ c.requires.0 c.requires.1 c.field-guard.ensures c.in_ok-truth_at.ensures (ap got c.if-branch.true),
  ),
)

pub returns-else-branch : goal.returns-else-branch
returns-else-branch c =
    while_done _ _ _ _ _ _ c.requires.0 c.requires.1 c.field-guard.ensures c.in_ok-truth_at.ensures
    (ap got c.if-branch.false) c.take_next.ensures

pub returns-in_err-truth_at : goal.returns-in_err-truth_at
returns-in_err-truth_at c =
    let p = err_from_is_err_and c.from_residual.result c.from_residual.ensures.1 in
    rw (p.1, p.2) (while_stopped _ _ _ _ _ _ c.requires.0 c.requires.1 c.field-guard.ensures c.in_err-truth_at.ensures refl)
