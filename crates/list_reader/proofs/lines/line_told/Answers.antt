-- `list_reader::lines::line_told` meets its contract, by where the place is.
use Rattle.std.proofs.Common.{◌∙◌, sym, ap}
use Rattle.script.specs.declared.Line.{Line}
use Rattle.list_reader.proofs.Telling.{told_inside, told_outside}
use Rattle.list_reader.proofs.lines.line_told.Goals as goal

pub returns-then-words-end : goal.returns-then-words-end
returns-then-words-end c = told_outside c.args.words.now c.args.end c.requires c.if-words-end.either

pub returns-else-words-end : goal.returns-else-words-end
returns-else-words-end c =
    let inside = c.if-words-end.false in
    let told = told_inside c.args.words.now c.requires c.args.end inside.0 inside.1 c.trailer_at.ensures in
    (c.trailer_line.ensures ∙ told, ap (λ (l : Line). l.number) (sym told))
