-- The table is the words that the input spells.
use Rattle.program.specs.Answers.{written}
use Rattle.program.proofs.report_words.Goals as goal

pub returns-clause-wrote : goal.returns-clause-wrote
returns-clause-wrote c = rw (written (c.decode-n.ensures.wrote, c.decode-n.ensures.upper_bound)) at c.report_table.ensures.wrote
