-- The four words are put in at once. Assumes nothing.
use Rattle.std.proofs.Common.{arith}
use Rattle.parser.proofs.Laws.{row_written}
use Rattle.parser.proofs.rows.write_words.Goals as goal

pub returns-clause-words : goal.returns-clause-words
returns-clause-words c =
    row_written _ _ _ _ (omega arith) (omega arith) (omega arith) c.copy_from_slice.ensures.after
