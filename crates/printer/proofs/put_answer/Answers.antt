-- The heading, and after a plan the lines.
use Rattle.std.proofs.Common.{rules, arith, [], ◌∷◌, pos}
use Rattle.std.proofs.Math.ListN.{length-append}
use Rattle.text.specs.Ascii.{bytes}
use Rattle.output.specs.Written.{then}
use Rattle.printer.specs.Text.{line, lines, conditions_in}
use Rattle.printer.proofs.Lines.{planned_is, refused_is}
use Rattle.printer.proofs.Short.{heading_short}
use Rattle.printer.proofs.put_answer.Goals as goal

pub returns-then-answer-eq0-clause-wrote : goal.returns-then-answer-eq0-clause-wrote
returns-then-answer-eq0-clause-wrote c =
    rw (planned_is c.args.answer (conditions_in c.args.list.now) c.if-answer-eq0.true)
    (then c.put_heading.ensures c.put_lines.ensures.wrote)

pub returns-then-answer-eq0-clause-answer_len_bound : goal.returns-then-answer-eq0-clause-answer_len_bound
returns-then-answer-eq0-clause-answer_len_bound c =
    let answer = c.args.answer in
    let heading = line (bytes "planned") (pos answer.conditions ∷ pos answer.words ∷ []) in
    let short = heading_short (bytes "planned") answer.conditions answer.words (search rules) (search rules) in
    rw (planned_is answer (conditions_in c.args.list.now) c.if-answer-eq0.true)
    (omega (arith, length-append heading (lines (conditions_in c.args.list.now)), short, c.put_lines.ensures.list_len_bound))

pub returns-else-answer-eq0-clause-wrote : goal.returns-else-answer-eq0-clause-wrote
returns-else-answer-eq0-clause-wrote c =
    rw (refused_is c.args.answer (conditions_in c.args.list.now) c.if-answer-eq0.false) c.put_heading-else-answer-eq0.ensures

pub returns-else-answer-eq0-clause-answer_len_bound : goal.returns-else-answer-eq0-clause-answer_len_bound
returns-else-answer-eq0-clause-answer_len_bound c =
    let short = heading_short (bytes "refused") c.args.answer.number c.args.answer.row (search rules) (search rules) in
    rw (refused_is c.args.answer (conditions_in c.args.list.now) c.if-answer-eq0.false) (omega (arith, short))
