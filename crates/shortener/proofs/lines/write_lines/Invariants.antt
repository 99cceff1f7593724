-- Whatever writes the lines that are left, and the count, writes the list; the ends stay as they were.
use Rattle.std.proofs.Common.{◌≡◌}
use Rattle.shortener.specs.Lines.{Lining}
use Rattle.shortener.specs.Runs.{ends, changes}
use Rattle.shortener.proofs.lines.write_lines.Given as goal

abbrev pub invariant-loop-left : goal.invariant-loop-left
invariant-loop-left l =
    (ends l.entries ≡ ends l.fn.entries)
    × Lining l.list l.count (ends l.fn.entries) (changes l.fn.entries) l.fn.out l.at l._left (changes l.entries) l.out
