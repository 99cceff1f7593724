use Rattle.std.proofs.Common.{arith}
use Rattle.table.specs.Nesting.{body_in, script_nesting_of}
use Rattle.table.proofs.nesting.script_nesting.Goals as goal

pub nesting_at-requires : goal.nesting_at-requires
nesting_at-requires c = body_in c.requires.0 c.requires.1 (rw c.row_count-rows.ensures at c.field-body.ensures)

pub returns : goal.returns
returns c =
    script_nesting_of c.requires.0 c.requires.1 (rw c.row_count-rows.ensures at c.field-body.ensures) c.loop-r.invariant.1
    (omega (arith, c.row_count-rows.ensures)) c.nesting_at.ensures
