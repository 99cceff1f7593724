-- The links of a sequence, an if and a while are lower.
use Rattle.std.proofs.Common.{refl}
use Rattle.script.specs.Kinds.{kind_of, number_read, other_read}
use Rattle.table.specs.Nesting.{of_row, sequence_in, if_in, while_in, if_fits, while_fits, nothing_nested, sequence_nested, if_nested, while_nested}
use Rattle.table.proofs.nesting.row_nesting.Goals as goal

pub nesting_at-requires : goal.nesting_at-requires
nesting_at-requires c = (sequence_in (of_row c.requires c.field-first.ensures c.field-second.ensures refl) (number_read c.kind_at.ensures c.in-Sequence.is refl)).0

pub nesting_at-requires-in-Sequence : goal.nesting_at-requires-in-Sequence
nesting_at-requires-in-Sequence c = (sequence_in (of_row c.requires c.field-first.ensures c.field-second.ensures refl) (number_read c.kind_at.ensures c.in-Sequence.is refl)).1

pub nesting_at-requires-in-If : goal.nesting_at-requires-in-If
nesting_at-requires-in-If c = (if_in (of_row c.requires refl c.field-true_side.ensures c.field-false_side.ensures) (number_read c.kind_at.ensures c.in-If.is refl)).0

pub nesting_at-requires-in-If-2 : goal.nesting_at-requires-in-If-2
nesting_at-requires-in-If-2 c = (if_in (of_row c.requires refl c.field-true_side.ensures c.field-false_side.ensures) (number_read c.kind_at.ensures c.in-If.is refl)).1

pub overflow_add-result : goal.overflow_add-result
overflow_add-result c = if_fits (of_row c.requires refl c.field-true_side.ensures c.field-false_side.ensures) (number_read c.kind_at.ensures c.in-If.is refl) c.nesting_at-in-If.ensures c.nesting_at-in-If-2.ensures c.max-in-If.ensures

pub nesting_at-requires-in-While : goal.nesting_at-requires-in-While
nesting_at-requires-in-While c = while_in (of_row c.requires refl refl c.field-body.ensures) (number_read c.kind_at.ensures c.in-While.is refl)

pub overflow_add-result-in-While : goal.overflow_add-result-in-While
overflow_add-result-in-While c = while_fits (of_row c.requires refl refl c.field-body.ensures) (number_read c.kind_at.ensures c.in-While.is refl) c.nesting_at-in-While.ensures

pub returns-in-Sequence : goal.returns-in-Sequence
returns-in-Sequence c = sequence_nested (of_row c.requires c.field-first.ensures c.field-second.ensures refl) (number_read c.kind_at.ensures c.in-Sequence.is refl) c.nesting_at.ensures c.nesting_at-in-Sequence.ensures c.max.ensures

pub returns-in-If : goal.returns-in-If
returns-in-If c = if_nested (of_row c.requires refl c.field-true_side.ensures c.field-false_side.ensures) (number_read c.kind_at.ensures c.in-If.is refl) c.nesting_at-in-If.ensures c.nesting_at-in-If-2.ensures c.max-in-If.ensures

pub returns-in-While : goal.returns-in-While
returns-in-While c = while_nested (of_row c.requires refl refl c.field-body.ensures) (number_read c.kind_at.ensures c.in-While.is refl) c.nesting_at-in-While.ensures

pub returns-in_default : goal.returns-in_default
unfolding kind_of
returns-in_default c = nothing_nested (of_row c.requires refl refl refl) (other_read c.kind_at.ensures c.in_default.not-Sequence refl) (other_read c.kind_at.ensures c.in_default.not-If refl) (other_read c.kind_at.ensures c.in_default.not-While refl)
