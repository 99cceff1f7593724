use Rattle.std.proofs.Common.{◌∙◌, ap}
use Rattle.shortener.specs.Planning.{back_none}
use Rattle.shortener.specs.Runs.{coded}
use Rattle.shortener.proofs.Entered.{back_more}
use Rattle.shortener.proofs.plan.plan.Goals as goal

pub loop-at-init : goal.loop-at-init
loop-at-init c = back_none c.requires

pub loop-at-preserved : goal.loop-at-preserved
loop-at-preserved c =
    back_more _ c.args.entries.now c.loop-at.entries c.loop-at.at _ c.loop-at.invariant c.loop-at-test.true (ap coded c.put.ensures ∙ c.entry_at-entry.ensures)
