-- Before each turn the rows from r on are passed.
use Rattle.marks.specs.Going.{Going}
use Rattle.marks.proofs.name_loops.Given as goal

abbrev pub invariant-loop-r : goal.invariant-loop-r
invariant-loop-r l = Going l.fn.words l.rows l.r l.words l.loops
