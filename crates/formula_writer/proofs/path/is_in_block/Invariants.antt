-- What was found up to the present place.
use Rattle.std.proofs.Common.{◌+◌}
use Rattle.formula_writer.specs.Search.{Between}
use Rattle.formula_writer.proofs.path.is_in_block.Given as goal

abbrev pub invariant-loop-i : goal.invariant-loop-i
invariant-loop-i l = Between l.path l.target l.k (l.k + l.i) l.found
