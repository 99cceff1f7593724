-- At each turn, whatever writes what is ahead writes the whole; the ends stay as they were.
use Rattle.std.proofs.Common.{◌≡◌, ◌-◌}
use Rattle.shortener.specs.Turns.{Turn}
use Rattle.shortener.specs.Runs.{ends, changes}
use Rattle.shortener.proofs.writing.write_formula.Given as goal

abbrev pub invariant-loop-at : goal.invariant-loop-at
invariant-loop-at l =
    (ends l.entries ≡ ends l.fn.entries)
    × Turn l.words l.first l.end (ends l.fn.entries) (changes l.fn.entries) l.fn.out l.at (changes l.entries) l.out

abbrev pub decreases-loop-at : goal.decreases-loop-at
decreases-loop-at l = l.end - l.at
