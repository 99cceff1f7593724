-- The measure of the walk, the row, and what holds at each turn: whatever lists the conditions of the statement at hand lists those
-- of the first. The row number falls at every turn and at every call.
use Rattle.following.specs.Follow.{follow_in}
use Rattle.list_writer.specs.Walks.{Turned}
use Rattle.list_writer.proofs.+list_conditions.Given as goal

abbrev pub decreases-list_conditions : goal.decreases-list_conditions
decreases-list_conditions l = l.first

abbrev pub invariant-loop-end : goal.invariant-loop-end
invariant-loop-end l =
    Turned l.table (follow_in l.table l.initial.scratch) l.end.0 l.depth l.initial.s l.initial.scratch l.initial.lines
    l.s l.scratch l.lines

abbrev pub decreases-loop-end : goal.decreases-loop-end
decreases-loop-end l = l.s
