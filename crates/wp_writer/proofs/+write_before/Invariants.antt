-- The measure of the writer of W, what is left to pass, and what holds at each turn: whatever writes W from the statement at hand
-- on, writes W from the first on.
use Rattle.following.specs.Follow.{follow_in}
use Rattle.following.specs.Course.{left}
use Rattle.wp_writer.specs.Walked.{Turned}
use Rattle.wp_writer.proofs.+write_before.Given as goal

abbrev pub decreases-write_before : goal.decreases-write_before
decreases-write_before l = left l.table.now (follow_in l.table.now l.scratch.now) l.first

abbrev pub invariant-loop-s : goal.invariant-loop-s
invariant-loop-s l =
    Turned l.table (follow_in l.table l.initial.scratch) l.end.0 l.initial.s l.initial.j l.initial.scratch l.initial.out
    l.s l.j l.scratch l.out

abbrev pub decreases-loop-s : goal.decreases-loop-s
decreases-loop-s l = left l.table (follow_in l.table l.initial.scratch) l.s
