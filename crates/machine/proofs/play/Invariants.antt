-- What the rest of the play leaves is what the whole leaves. Assumes nothing.
use Rattle.std.proofs.Common.{◌-◌}
use Rattle.machine.specs.Playing.{Playing}
use Rattle.machine.proofs.play.Given as goal

abbrev pub invariant-loop-height : goal.invariant-loop-height
invariant-loop-height l =
    Playing l.table l.initial.stack l.begun l.initial.variables l.initial.marks l.limit l.stack l.variables l.marks l.height l.steps

abbrev pub decreases-loop-height : goal.decreases-loop-height
decreases-loop-height l = l.limit - l.steps
