-- A turn passes one row more, by its kind.
use Rattle.std.proofs.Common.{rules, ◌*◌, ◌-◌, ◌+◌, get_or, pos}
use Rattle.script.specs.Laws.{back}
use Rattle.marks.specs.Going.{started, ended, after_loop, after_note, after_mark, after_other}
use Rattle.marks.proofs.name_loops.Goals as goal

pub loop-r-init : goal.loop-r-init
loop-r-init c = rw c.new-loops.ensures (started c.args.words.now c.args.rows c.requires.0)

pub loop-r-preserved-in-While : goal.loop-r-preserved-in-While
loop-r-preserved-in-While c =
    rw c.enter.ensures (after_loop c.requires.0 c.loop-r-test.true c.loop-r.invariant c.kind_at.ensures c.in-While.is)

pub loop-r-preserved-in-Note : goal.loop-r-preserved-in-Note
loop-r-preserved-in-Note c =
    rw c.leave.ensures (after_note c.requires.0 c.loop-r-test.true c.loop-r.invariant c.kind_at.ensures c.in-Note.is)

pub loop-r-preserved-in-Mark : goal.loop-r-preserved-in-Mark
loop-r-preserved-in-Mark c =
    let k = get_or c.loop-r.words (4 * (c.loop-r.r - 1) + 1) (pos 0) in
    rw (back {z = c.named.result} (search rules), c.named.ensures, back {z = k} (search rules))
    (after_mark c.requires.0 c.loop-r-test.true c.loop-r.invariant c.kind_at.ensures c.in-Mark.is)

pub loop-r-preserved : goal.loop-r-preserved
loop-r-preserved c =
    after_other c.requires.0 c.loop-r-test.true c.loop-r.invariant c.kind_at.ensures
    c.in_default.not-While c.in_default.not-Note c.in_default.not-Mark

pub returns : goal.returns
returns c = ended c.loop-r.invariant c.loop-r-test.false
