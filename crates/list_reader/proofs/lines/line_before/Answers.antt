-- `list_reader::lines::line_before` meets its contract.
use Rattle.list_reader.proofs.Stepping.{step_front, step_none}
use Rattle.list_reader.proofs.Telling.{no_start, step_told, told_as}
use Rattle.list_reader.proofs.lines.line_before.Goals as goal

pub returns-then-end-eq0 : goal.returns-then-end-eq0
returns-then-end-eq0 c = step_front c.args.words.now c.args.end c.if-end-eq0.true

pub returns-in-Some : goal.returns-in-Some
returns-in-Some c =
    let a = c.args in
    told_as _ (step_told a.words.now a.end c.if-end-eq0.false c.in-Some.ensures) c.line_told.ensures

pub returns-in-None : goal.returns-in-None
returns-in-None c = let a = c.args in step_none a.words.now a.end c.if-end-eq0.false (no_start a.words.now a.end c.in-None.ensures)
