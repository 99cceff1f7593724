-- Which way a turn ends the play, or goes on. Assumes nothing.
use Rattle.std.proofs.Common.{◌<◌, arith, rules}
use Rattle.machine.specs.Playing.{told_spent, told_failed, told_ended, playing_on}
use Rattle.stepper.specs.Steps.{tried_as}
use Rattle.machine.proofs.play.Goals as goal

pub returns-then-steps-limit : goal.returns-then-steps-limit
returns-then-steps-limit c = search (rules, told_spent)

pub returns-in-Err : goal.returns-in-Err
returns-in-Err c =
    let w = c.loop-height.invariant.within in
    let less : c.loop-height.steps < c.args.limit = omega arith in
    told_failed _ _ _ _ _ _ c.loop-height.invariant c.loop-height-test.true c.due-row.ensures less (tried_as c.in-Err.is c.step.ensures)

pub loop-height-preserved : goal.loop-height-preserved
loop-height-preserved c =
    let w = c.loop-height.invariant.within in
    let less : c.loop-height.steps < c.args.limit = omega arith in
    playing_on _ _ _ _ _ _ c.loop-height.invariant c.loop-height-test.true c.due-row.ensures less (tried_as c.in-Ok.is c.step.ensures)

pub returns : goal.returns
returns c = let z = c.loop-height-test.false in told_ended _ _ _ _ _ _ c.loop-height.invariant (omega arith)
