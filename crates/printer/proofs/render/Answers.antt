-- There is room for the text.
use Rattle.std.proofs.Common.{arith}
use Rattle.theorems.specs.Writing.{wrote_room}
use Rattle.printer.proofs.render.Goals as goal

pub returns-clause-upper_bound : goal.returns-clause-upper_bound
returns-clause-upper_bound c =
    wrote_room c.put_answer.ensures.wrote.wrote (omega (arith, c.put_answer.ensures.answer_len_bound, c.requires.list_in_bounds))
