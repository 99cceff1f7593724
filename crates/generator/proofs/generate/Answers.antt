-- What is answered is the outcome, scratch is cleared last, and demand 3 is a theorem of it.
use Rattle.std.proofs.Common.{length}
use Rattle.generator.specs.Whole.{cleared_left}
use Rattle.generator.proofs.generate.Goals as goal

pub returns-clause-scratch : goal.returns-clause-scratch
returns-clause-scratch c =
    (cleared_left c.args.table.now (length c.args.list.now) (length c.args.scratch.now) c.answer-answer.ensures.answered
    c.answer-answer.ensures.scratch_len_unchanged c.clear.ensures).1.1.0

pub returns-clause-demand : goal.returns-clause-demand
returns-clause-demand c =
    (cleared_left c.args.table.now (length c.args.list.now) (length c.args.scratch.now) c.answer-answer.ensures.answered
    c.answer-answer.ensures.scratch_len_unchanged c.clear.ensures).1.1.1
