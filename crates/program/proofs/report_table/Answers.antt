-- What is used of the list spells the conditions, and its text has room.
use Rattle.std.proofs.Common.{◌∙◌}
use Rattle.program.specs.Answers.{within, front, ready, wrote_table}
use Rattle.program.proofs.report_table.Goals as goal

pub slice_bounds-list-end : goal.slice_bounds-list-end
slice_bounds-list-end c = within _ _ _ (c.told-answer.ensures ∙ c.generate.ensures.answer) c.generate.ensures.words

pub slice_bounds-render-end : goal.slice_bounds-render-end
slice_bounds-render-end c = front _ _ _ (c.told-answer.ensures ∙ c.generate.ensures.answer) c.generate.ensures.words

pub render-requires-clause-listed : goal.render-requires-clause-listed
render-requires-clause-listed c =
    (ready _ _ _ (c.told-answer.ensures ∙ c.generate.ensures.answer) c.generate.ensures.words _ c.requires).0

pub render-requires-clause-list_in_bounds : goal.render-requires-clause-list_in_bounds
render-requires-clause-list_in_bounds c =
    (ready _ _ _ (c.told-answer.ensures ∙ c.generate.ensures.answer) c.generate.ensures.words _ c.requires).1

pub returns-clause-wrote : goal.returns-clause-wrote
returns-clause-wrote c = wrote_table _ _ _ (c.told-answer.ensures ∙ c.generate.ensures.answer) c.generate.ensures.words c.render.ensures.wrote
