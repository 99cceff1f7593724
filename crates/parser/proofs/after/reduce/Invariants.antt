-- What is left to take gives what the whole gave; the words keep their length. Assumes nothing.
use Rattle.std.proofs.Common.{◌≡◌}
use Rattle.parser.specs.Machine.{reduce}
use Rattle.parser.proofs.after.reduce.Given as goal

abbrev pub invariant-loop-top : goal.invariant-loop-top
invariant-loop-top l =
    reduce l.stack l.tight l.top l.sort l.rows l.words ≡ reduce l.stack l.tight l.initial.top l.initial.sort l.initial.rows l.initial.words

abbrev pub decreases-loop-top : goal.decreases-loop-top
decreases-loop-top l = l.top
