use Rattle.std.proofs.Common.{arith}
use Rattle.table.specs.Lowest.{rows_none, rows_more, rows_refused, rows_accepted}
use Rattle.table.proofs.tests.check_rows.Goals as goal

pub loop-r-init : goal.loop-r-init
loop-r-init c = (c.kinds-kinds.ensures, rows_none c.requires.1)

pub returns-in-Some : goal.returns-in-Some
returns-in-Some c = rows_refused c.loop-r.invariant.1 (omega (arith, c.row_count-r-end.ensures)) c.row_fault.ensures c.in-Some.is

pub loop-r-preserved : goal.loop-r-preserved
loop-r-preserved c =
    (c.loop-r.invariant.0, rows_more c.loop-r.invariant.1 (omega (arith, c.row_count-r-end.ensures)) c.row_fault.ensures c.in_default.is)

pub returns : goal.returns
returns c = rows_accepted c.loop-r.invariant.1 (omega (arith, c.row_count-r-end.ensures))
