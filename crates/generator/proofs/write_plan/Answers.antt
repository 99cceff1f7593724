-- The room's words are written from the front of a cleared list.
use Rattle.std.proofs.Common.{◌≡◌, ap, ◌∙◌, length, rules}
use Rattle.script.specs.Generated.{zeros, room}
use Rattle.generator.specs.Outcomes.{planned, unwritten, kept_length}
use Rattle.generator.proofs.write_plan.Goals as goal

pub returns-then-room-progress-clause-fitted : goal.returns-then-room-progress-clause-fitted
returns-then-room-progress-clause-fitted c =
    let t = c.args.table.now in
    let l = c.args.list.now in
    let n = c.min-room.result in
    let roomy : n ≡ room (length l) = search rules in
    let whole = c.write_list-progress.ensures.whole in
    let left = unwritten t l n c.requires.1.0 roomy whole c.if-room-progress.true in
    (left.0, c.clear.ensures ∙ (ap zeros (kept_length t l n c.requires.1.0 roomy whole) ∙ left.1))

pub returns-clause-fitted : goal.returns-clause-fitted
returns-clause-fitted c =
    let l = c.args.list.now in
    let n = c.min-room.result in
    let roomy : n ≡ room (length l) = search rules in
    planned c.args.table.now l n c.requires.1.0 roomy c.write_list-progress.ensures.whole c.if-room-progress.false
