-- The words from i on are left, and they are those that the bytes from 4 * i on spell.
use Rattle.std.proofs.Common.{◌*◌, drop}
use Rattle.theorems.specs.Writing.{Left}
use Rattle.printer.specs.Input.{words_of}
use Rattle.printer.proofs.decode.Given as goal

abbrev pub invariant-loop-i : goal.invariant-loop-i
invariant-loop-i l = Left l.fn.words 0 (words_of l.fn.bytes) l.words l.i (words_of (drop (4 * l.i) l.fn.bytes))
