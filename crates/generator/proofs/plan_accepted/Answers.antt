-- The scratch that is needed is lent from its front.
use Rattle.std.proofs.Common.{length, refl}
use Rattle.generator.specs.Outcomes.{short_answered, fitted_answered}
use Rattle.generator.proofs.plan_accepted.Goals as goal

pub returns-then-scratch-need-clause-answered : goal.returns-then-scratch-need-clause-answered
returns-then-scratch-need-clause-answered c =
    short_answered c.args.table.now (length c.args.list.now) (length c.args.scratch.now) c.requires.0
    (rw c.row_count-need.ensures at c.if-scratch-need.true) refl c.requires.1

pub returns-clause-answered : goal.returns-clause-answered
returns-clause-answered c =
    fitted_answered c.args.table.now (length c.args.list.now) (length c.args.scratch.now) c.requires.0
    (rw c.row_count-need.ensures at c.if-scratch-need.false) c.write_plan.ensures.fitted
