-- `list_reader::lines::start_before` meets its contract, by where the place is.
use Rattle.list_reader.proofs.Stepping.{start_none, start_read, line_outside}
use Rattle.list_reader.proofs.lines.start_before.Goals as goal

pub returns-then-words-end : goal.returns-then-words-end
returns-then-words-end c = start_none c.args.words.now c.args.end (line_outside c.args.words.now c.requires c.args.end c.if-words-end.either)

pub returns-else-words-end : goal.returns-else-words-end
returns-else-words-end c =
    let inside = c.if-words-end.false in
    start_read c.args.words.now c.requires c.args.end inside.0 inside.1 c.trailer_at.ensures c.start_of.ensures
