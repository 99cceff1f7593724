-- By the kind of the row; what has none of the four, or is past the table, is passed over. Assumes nothing.
use Rattle.std.proofs.Common.{refl}
use Rattle.script.specs.Kinds.{kind_of, number_read, other_read}
use Rattle.stepper.specs.Steps.{went_on}
use Rattle.stepper.specs.Statements.{beyond, idle}
use Rattle.stepper.proofs.steps.step.Goals as goal

pub assign-requires : goal.assign-requires
assign-requires c = (c.requires, number_read c.kind_at.ensures c.in-Assign.is refl)

pub choose_side-requires : goal.choose_side-requires
choose_side-requires c = (c.requires, number_read c.kind_at.ensures c.in-If.is refl)

pub test_guard-requires : goal.test_guard-requires
test_guard-requires c = (c.requires, number_read c.kind_at.ensures c.in-While.is refl)

pub assert_true-requires : goal.assert_true-requires
assert_true-requires c = (c.requires, number_read c.kind_at.ensures c.in-Assert.is refl)

pub returns-in_default : goal.returns-in_default
unfolding kind_of
returns-in_default c =
    let e = c.kind_at.ensures in
    let k = c.in_default in
    went_on _ _ _ _ _ _ c.requires c.take_next.ensures refl refl
    (idle _ _ _ _ _ _ c.requires refl
    ((((tt, other_read e k.not-Assign refl), other_read e k.not-If refl), other_read e k.not-While refl), other_read e k.not-Assert refl))

pub returns-else-at-row_count : goal.returns-else-at-row_count
returns-else-at-row_count c =
    went_on _ _ _ _ _ _ c.requires c.take_next-else-at-row_count.ensures refl refl (beyond _ _ _ _ _ _ c.requires (rw c.row_count.ensures at c.if-at-row_count.false))
