-- What is written, one after the other, is the line.
use Rattle.script.specs.Laws.{back}
use Rattle.output.specs.Written.{then}
use Rattle.printer.specs.Text.{name_of}
use Rattle.printer.proofs.Lines.{line_is}
use Rattle.printer.proofs.Short.{line_short}
use Rattle.printer.proofs.put_condition.Goals as goal

pub returns-clause-wrote : goal.returns-clause-wrote
returns-clause-wrote c =
    let row = rw (back c.ranges.row.sfits) at c.put_field.ensures in
    rw (line_is (name_of c.args.kind) c.args.row c.args.formula.now)
    (then (rw c.rule_of.ensures at c.put_name.ensures) (then row c.put_fields.ensures.wrote))

pub returns-clause-formula_len_bound : goal.returns-clause-formula_len_bound
returns-clause-formula_len_bound c =
    line_short c.args.kind c.args.row c.args.formula.now c.ranges.row.sfits c.put_fields.ensures.words_len_bound
