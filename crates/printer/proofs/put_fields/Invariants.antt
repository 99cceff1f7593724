-- The words from the index on, and the line feed, are left.
use Rattle.std.proofs.Common.{◌≤◌, ◌+◌, ◌*◌, length, drop}
use Rattle.output.specs.Written.{Left}
use Rattle.printer.specs.Text.{rest_of_line}
use Rattle.printer.proofs.put_fields.Given as goal

abbrev pub invariant-loop-word : goal.invariant-loop-word
invariant-loop-word l =
    (length (rest_of_line l.words) ≤ 12 * l.word-index + length (rest_of_line (drop l.word-index l.words)))
    × Left l.fn.out (rest_of_line l.words) l.out (rest_of_line (drop l.word-index l.words))
