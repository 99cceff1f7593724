-- Of a sequence, what is due is what is due of its first part. Assumes nothing.
use Rattle.std.proofs.Common.{◌≡◌}
use Rattle.stepper.specs.DueRows.{due_row}
use Rattle.stepper.proofs.stack.due.Given as goal

abbrev pub invariant-loop-at : goal.invariant-loop-at
invariant-loop-at l = due_row l.fn.table l.at ≡ due_row l.fn.table l.fn.r

abbrev pub decreases-loop-at : goal.decreases-loop-at
decreases-loop-at l = l.at
