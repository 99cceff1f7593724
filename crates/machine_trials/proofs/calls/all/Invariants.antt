-- The numbers that are left.
use Rattle.std.proofs.Common.{length, ◌-◌}
use Rattle.machine_trials.proofs.calls.all.Given as goal

abbrev pub decreases-loop-at : goal.decreases-loop-at
decreases-loop-at g l = length l.numbers - l.at
