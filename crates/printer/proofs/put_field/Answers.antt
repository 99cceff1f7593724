-- By the sign of the word.
use Rattle.script.specs.Laws.{back}
use Rattle.output.specs.Written.{then}
use Rattle.printer.proofs.Signs.{negative_word, other_word}
use Rattle.printer.proofs.put_field.Goals as goal

pub returns-then-w-lt0 : goal.returns-then-w-lt0
returns-then-w-lt0 c =
    rw (negative_word (back c.ranges.w.sfits) c.magnitude-n.ensures c.if-w-lt0.true)
    (then c.push_text.ensures c.push_number.ensures)

pub returns-else-w-lt0 : goal.returns-else-w-lt0
returns-else-w-lt0 c = rw (other_word (back c.ranges.w.sfits) c.magnitude-n.ensures c.if-w-lt0.false) c.put_count.ensures
