use Rattle.std.proofs.Common.{◌∙◌, ap, arith, add-one, get_or, List, ℤ}
use Rattle.editor.specs.Flat.{none, put_row}
use Rattle.editor.proofs.Copied.{copied_more}
use Rattle.editor.proofs.copy_first.Goals as goal

pub loop-i-preserved : goal.loop-i-preserved
loop-i-preserved c =
    let rs = c.args.rows.now in
    let i = c.loop-i.i in
    rw add-one
    (c.put_row.ensures
    ∙ ap (λ (t : List ℤ). put_row t i (get_or rs i none)) c.loop-i.invariant
    ∙ copied_more rs i c.args.table.now (omega arith) (omega arith))
