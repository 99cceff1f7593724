-- The parts of a sequence are where they are looked for, and lower; there is a place for the second on the stack. Assumes nothing.
use Rattle.std.proofs.Common.{rules, arith, length, ◌<◌}
use Rattle.stepper.specs.Taking.{Split, split, taking_begun, taking_more, taken, room}
use Rattle.stepper.proofs.stack.take_next.Goals as goal

pub loop-first-init : goal.loop-first-init
loop-first-init c = taking_begun _ _ _ c.requires

pub field-first-requires : goal.field-first-requires
field-first-requires c = let i = (split _ c.requires.checked _ (c.loop-first-test.ensures {u = tt})).inside in search rules

pub field-second-requires : goal.field-second-requires
field-second-requires c = let i = (split _ c.requires.checked _ (c.loop-first-test.ensures {u = tt})).inside in search rules

roomy : (c : goal.After-field-second) → c.loop-first.left < length c.loop-first.stack
roomy c = room _ _ _ _ c.loop-first.invariant c.requires.checked (c.loop-first-test.ensures {u = tt})

parts : (c : goal.After-field-second) → Split c.args.table.now c.loop-first.at
parts c = split _ c.requires.checked _ (c.loop-first-test.ensures {u = tt})

pub overflow_cast-stack : goal.overflow_cast-stack
overflow_cast-stack c =
    let h = (parts c).second in
    let l = (parts c).low in
    let e = c.field-second.ensures in
    record { fits = omega arith }

pub offset_bounds-stack-left-in-loop-first : goal.offset_bounds-stack-left-in-loop-first
offset_bounds-stack-left-in-loop-first c = let l = roomy c in search rules

pub bounds-stack-left-in-loop-first : goal.bounds-stack-left-in-loop-first
bounds-stack-left-in-loop-first c = roomy c

pub overflow_add-left : goal.overflow_add-left
overflow_add-left c = let l = roomy c in search rules

pub loop-first-smaller : goal.loop-first-smaller
loop-first-smaller c =
    let first = (parts c).first in
    let second = (parts c).second in
    let e = c.field-first.ensures in
    let f = c.field-second.ensures in
    omega arith

pub loop-first-preserved : goal.loop-first-preserved
loop-first-preserved c =
    taking_more _ _ _ _ c.loop-first.invariant c.requires.checked (c.loop-first-test.ensures {u = tt}) c.field-first.ensures c.field-second.ensures

pub returns : goal.returns
returns c = taken _ _ _ c.requires c.loop-first.invariant (c.loop-first-test.ensures {u = tt})
