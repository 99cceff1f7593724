-- The first part of a sequence is where it is looked for, and lower. Assumes nothing.
use Rattle.std.proofs.Common.{rules, ◌∙◌, refl, arith}
use Rattle.stepper.specs.Taking.{split, due_split, due_unsplit}
use Rattle.stepper.proofs.stack.due.Goals as goal

pub loop-at-init : goal.loop-at-init
loop-at-init c = refl

pub field-at-requires : goal.field-at-requires
field-at-requires c = let i = (split _ c.requires _ (c.loop-at-test.ensures {u = tt})).inside in search rules

pub loop-at-smaller : goal.loop-at-smaller
loop-at-smaller c =
    let first = (split _ c.requires _ (c.loop-at-test.ensures {u = tt})).first in
    let e = c.field-at.ensures in
    omega arith

pub loop-at-preserved : goal.loop-at-preserved
loop-at-preserved c = rw c.field-at.ensures (due_split _ c.requires _ (c.loop-at-test.ensures {u = tt}) ∙ c.loop-at.invariant)

pub returns : goal.returns
returns c = due_unsplit _ c.requires _ (c.loop-at-test.ensures {u = tt}) ∙ c.loop-at.invariant
