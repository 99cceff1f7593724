-- No D stands below the row at hand, and each turn says it of one row more.
use Rattle.dividing.specs.Undivided.{Undivided}
use Rattle.dividing.proofs.pass_undivided.Given as goal

abbrev pub invariant-loop-r : goal.invariant-loop-r
invariant-loop-r l = Undivided l.table l.follow l.r
