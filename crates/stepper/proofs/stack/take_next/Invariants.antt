-- Each turn puts the second part of a sequence on the stack and goes on with the first. Assumes nothing.
use Rattle.stepper.specs.Taking.{Taking}
use Rattle.stepper.proofs.stack.take_next.Given as goal

abbrev pub invariant-loop-first : goal.invariant-loop-first
invariant-loop-first l = Taking l.fn.table l.initial.stack l.initial.left l.initial.at l.stack l.left l.at

abbrev pub decreases-loop-first : goal.decreases-loop-first
decreases-loop-first l = l.at
