-- The conditions of the list from i on are left.
use Rattle.std.proofs.Common.{◌-◌, length}
use Rattle.printer.proofs.Walk.{Walking}
use Rattle.printer.proofs.put_lines.Given as goal

abbrev pub invariant-loop-i : goal.invariant-loop-i
invariant-loop-i l = Walking l.fn.out l.list l.out l.i

abbrev pub decreases-loop-i : goal.decreases-loop-i
decreases-loop-i l = length l.list - l.i
