-- By the kind of a row of the table; past it there is nothing.
use Rattle.std.proofs.Common.{refl, ◌∙◌}
use Rattle.std.proofs.lemmas.Bool.{le-ltb}
use Rattle.script.specs.Kinds.{kind_of, number_read, other_read}
use Rattle.stepper.specs.Kinds.{split_here, unsplit_here}
use Rattle.stepper.specs.Taking.{past_unsplit}
use Rattle.stepper.proofs.stack.is_sequence.Goals as goal

pub returns-in-Sequence : goal.returns-in-Sequence
returns-in-Sequence c = split_here _ _ refl (number_read c.kind_at.ensures c.in-Sequence.is refl)

pub returns-in_default : goal.returns-in_default
unfolding kind_of
returns-in_default c = unsplit_here _ _ refl (other_read c.kind_at.ensures c.in_default.not-Sequence refl)

pub returns-else-r-row_count : goal.returns-else-r-row_count
returns-else-r-row_count c = le-ltb _ _ c.if-r-row_count.false ∙ past_unsplit _ c.requires _ (rw c.row_count.ensures at c.if-r-row_count.false)
