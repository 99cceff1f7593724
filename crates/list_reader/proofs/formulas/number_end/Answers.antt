-- `list_reader::formulas::number_end` meets its contract.
use Rattle.list_reader.proofs.Opening.{number_inside, number_outside}
use Rattle.list_reader.proofs.formulas.number_end.Goals as goal

pub returns-then-at-words : goal.returns-then-at-words
returns-then-at-words c = number_inside c.args.words.now c.args.at c.if-at-words.true

pub returns-else-at-words : goal.returns-else-at-words
returns-else-at-words c = number_outside c.args.words.now c.args.at c.if-at-words.false
