-- A refusal's text has no conditions.
use Rattle.program.specs.Answers.{unread_wrote}
use Rattle.program.proofs.report_length.Goals as goal

pub returns-clause-wrote : goal.returns-clause-wrote
returns-clause-wrote c = unread_wrote _ (rw c.told-answer.ensures at c.render.ensures.wrote)
