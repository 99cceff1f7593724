-- Where none was found, no row below r is named.
use Rattle.table.specs.Lowest.{NamelessAt}
use Rattle.table.proofs.tests.any_named.Given as goal

abbrev pub invariant-loop-r : goal.invariant-loop-r
invariant-loop-r l = NamelessAt l.fn.table l.r l.found
