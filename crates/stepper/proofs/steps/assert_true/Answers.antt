-- By the truth of the assertion. Assumes nothing.
use Rattle.std.proofs.Common.{refl, ap, rules}
use Rattle.std.proofs.lemmas.Result.{err_from_is_err_and}
use Rattle.stepping.specs.Values.{got}
use Rattle.stepper.specs.Parts.{assert_parts}
use Rattle.stepper.specs.Steps.{lent}
use Rattle.stepper.specs.Statements.{assert_done, assert_untrue, assert_stopped}
use Rattle.stepper.proofs.steps.assert_true.Goals as goal

pub field-formula-requires : goal.field-formula-requires
field-formula-requires c = ((assert_parts _ c.requires.0.ready.checked _ c.requires.1).read, search rules)

pub truth_at-requires : goal.truth_at-requires
truth_at-requires c =
    lent _ _ _ _ _ _ c.requires.0 (rw c.field-formula.ensures (assert_parts _ c.requires.0.ready.checked _ c.requires.1).formula)

pub returns-then-branch : goal.returns-then-branch
returns-then-branch c =
    assert_done _ _ _ _ _ _ c.requires.0 c.requires.1 c.field-formula.ensures c.in_ok-truth_at.ensures
    (ap got c.if-branch.true) c.take_next.ensures

pub returns-else-branch : goal.returns-else-branch
returns-else-branch c =
    assert_untrue _ _ _ _ _ _ c.requires.0 c.requires.1 c.field-formula.ensures c.in_ok-truth_at.ensures
    (ap got c.if-branch.false)

pub returns-in_err-truth_at : goal.returns-in_err-truth_at
returns-in_err-truth_at c =
    let p = err_from_is_err_and c.from_residual.result c.from_residual.ensures.1 in
    rw (p.1, p.2) (assert_stopped _ _ _ _ _ _ c.requires.0 c.requires.1 c.field-formula.ensures c.in_err-truth_at.ensures refl)
