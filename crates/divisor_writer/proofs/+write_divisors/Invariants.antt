-- The measure of the writer of D, and what holds at each turn: whatever writes D of the node at hand writes the whole. Links fall.
use Rattle.divisor_writer.specs.Words.{divisor_words}
use Rattle.divisor_writer.specs.Turns.{Turn}
use Rattle.divisor_writer.proofs.+write_divisors.Given as goal

abbrev pub decreases-write_divisors : goal.decreases-write_divisors
decreases-write_divisors l = l.r.0

abbrev pub invariant-loop-j : goal.invariant-loop-j
invariant-loop-j l =
    Turn l.table l.follow l.path l.j l.initial.row (divisor_words l.table l.path l.j l.initial.row) l.initial.out
    l.row l.out

abbrev pub decreases-loop-j : goal.decreases-loop-j
decreases-loop-j l = l.row
