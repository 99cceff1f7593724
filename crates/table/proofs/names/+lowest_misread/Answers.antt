use Rattle.table.specs.Misread.{way, way_lower, step, mark_fits, nothing_read, variable_read, variable_unread, mark_read, one_read, two_read, three_read, loop_read}
use Rattle.table.proofs.names.+lowest_misread.Goals as goal
use Rattle.table.proofs.names.+lowest_misread.Goals.{then-code, else-code}

pub lowest_misread-requires-in-Three : goal.lowest_misread-requires-in-Three
lowest_misread-requires-in-Three t c = step c.requires c.decreases (way_lower _ _ c.requires.0 c.requires.1 (way _ _ _ c.row_at.ensures c.reads-next.ensures c.in-Three.is)).1.1

pub returns-in-Nothing : goal.returns-in-Nothing
returns-in-Nothing t c = nothing_read (way _ _ _ c.row_at.ensures c.reads-next.ensures c.in-Nothing.is)

pub returns-in-Mark : goal.returns-in-Mark
returns-in-Mark t c =
    mark_read _ (mark_fits c.requires.0 (way_lower _ _ c.requires.0 c.requires.1 (way _ _ _ c.row_at.ensures c.reads-next.ensures c.in-Mark.is))) (way _ _ _ c.row_at.ensures c.reads-next.ensures c.in-Mark.is)
    c.mark_misplaced.ensures c.lower-in-Mark.ensures

pub returns-in-One : goal.returns-in-One
returns-in-One t c = one_read _ _ (way _ _ _ c.row_at.ensures c.reads-next.ensures c.in-One.is) (way_lower _ _ c.requires.0 c.requires.1 (way _ _ _ c.row_at.ensures c.reads-next.ensures c.in-One.is)) c.lowest_misread.ensures

pub returns-in-Two : goal.returns-in-Two
returns-in-Two t c =
    two_read _ _ _ (way _ _ _ c.row_at.ensures c.reads-next.ensures c.in-Two.is) (way_lower _ _ c.requires.0 c.requires.1 (way _ _ _ c.row_at.ensures c.reads-next.ensures c.in-Two.is))
    c.lowest_misread-m.ensures c.lowest_misread-in-Two.ensures

pub returns-in-Three : goal.returns-in-Three
returns-in-Three t c =
    three_read _ _ _ _ _ (way _ _ _ c.row_at.ensures c.reads-next.ensures c.in-Three.is) (way_lower _ _ c.requires.0 c.requires.1 (way _ _ _ c.row_at.ensures c.reads-next.ensures c.in-Three.is))
    c.lowest_misread-m-in-Three.ensures c.lowest_misread-n.ensures c.lowest_misread-in-Three.ensures

pub returns-in-Loop : goal.returns-in-Loop
returns-in-Loop t c =
    loop_read _ _ _ (mark_fits c.requires.0 c.requires.1) (way _ _ _ c.row_at.ensures c.reads-next.ensures c.in-Loop.is) (way_lower _ _ c.requires.0 c.requires.1 (way _ _ _ c.row_at.ensures c.reads-next.ensures c.in-Loop.is))
    c.lowest_misread-m-in-Loop.ensures c.lowest_misread-n-in-Loop.ensures c.lowest_misread-k.ensures

pub returns-after-code : goal.returns-after-code
returns-after-code t c =
    let is = way _ _ _ c.row_at.ensures c.reads-next.ensures c.in-Variable.is in
    elim c.if-code.branch [
      | then-code w ↦ variable_read _ is w.is_frozen.ensures (rw w.if-code.true w.lower-is) c.lower.ensures
      | else-code w ↦ variable_unread _ is w.if-code.false w.lower-is c.lower.ensures
    ]
