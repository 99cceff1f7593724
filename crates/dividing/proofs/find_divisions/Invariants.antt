-- What is said of the rows below r holds on, and each turn says it of one row more.
use Rattle.dividing.specs.Filling.{Filled}
use Rattle.dividing.proofs.find_divisions.Given as goal

abbrev pub invariant-loop-r : goal.invariant-loop-r
invariant-loop-r l = Filled l.table l.follow l.r
