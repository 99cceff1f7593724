-- `list_reader::lines::start_of` meets its contract.
use Rattle.std.proofs.Common.{◌∙◌, sym, ap, rules}
use Rattle.script.specs.Laws.{back}
use Rattle.script.specs.Rows.{field_number}
use Rattle.list_reader.proofs.Trailers.{size_fits, start_stands, start_missing}
use Rattle.list_reader.proofs.lines.start_of.Goals as goal

pub overflow_sub-result : goal.overflow_sub-result
overflow_sub-result c =
    let a = c.args in
    let q = back {z = a.t.size} (search rules) in
    size_fits a.words.now a.e a.t (sym c.is_line.ensures ∙ c.if-is_line.true) (c.field_number-n.ensures ∙ ap field_number q)

pub returns-then-is_line : goal.returns-then-is_line
returns-then-is_line c =
    let a = c.args in
    let q = back {z = a.t.size} (search rules) in
    start_stands a.words.now a.e a.t (sym c.is_line.ensures ∙ c.if-is_line.true) (c.field_number-n.ensures ∙ ap field_number q)

pub returns-else-is_line : goal.returns-else-is_line
returns-else-is_line c = start_missing c.args.words.now c.args.e c.args.t (sym c.is_line.ensures ∙ c.if-is_line.false)
