-- The entries from the place on are known.
use Rattle.shortener.specs.Planning.{BackTo}
use Rattle.shortener.specs.Runs.{ends, shapes, changes}
use Rattle.shortener.proofs.plan.plan.Given as goal

abbrev pub invariant-loop-at : goal.invariant-loop-at
invariant-loop-at l =
    BackTo l.words (ends l.fn.entries) (shapes l.fn.entries) (changes l.fn.entries) (ends l.entries) (shapes l.entries) (changes l.entries) l.at
