-- `list_reader::walked`. The loop's invariant: the walk that is left gives what the whole walk gives.
use Rattle.std.proofs.Common.{◌≡◌}
use Rattle.script.specs.Listing.{no_line}
use Rattle.list_reader.specs.Lines.{line_told}
use Rattle.list_reader.proofs.Walking.{walk}
use Rattle.list_reader.proofs.walked.Given as goal

abbrev pub invariant-loop-i : goal.invariant-loop-i
invariant-loop-i l = walk l.words l.index (line_told l.words l.kept) l.i l.end ≡ walk l.words l.index (no_line 21) l.count l.last
