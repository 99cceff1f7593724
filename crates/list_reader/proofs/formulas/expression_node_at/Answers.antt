-- `list_reader::formulas::expression_node_at` meets its contract.
use Rattle.std.proofs.Common.{pos, get_or, rules}
use Rattle.script.specs.Laws.{back}
use Rattle.list_reader.proofs.Opening.{opened}
use Rattle.list_reader.proofs.formulas.expression_node_at.Goals as goal

pub returns-then-at-words : goal.returns-then-at-words
returns-then-at-words c =
    let w = get_or c.args.words.now c.args.at (pos 0) in
    let q = back {z = w} (search rules) in
    opened c.args.words.now c.args.at c.if-at-words.true q c.expression_node_of.ensures
