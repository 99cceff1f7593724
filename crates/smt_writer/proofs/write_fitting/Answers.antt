-- `smt_writer::write_fitting` meets its contract, where there was room for the whole script.
use Rattle.std.proofs.Common.{arith}
use Rattle.theorems.specs.Writing.{wrote_length}
use Rattle.smt_writer.specs.Entry.{fitting}
use Rattle.smt_writer.proofs.write_fitting.Goals as goal

pub returns : goal.returns
returns c f s =
    let wrote = c.write_from_start-used.ensures f s in
    fitting c.requires.1 wrote (omega (arith, wrote_length wrote, c.if-text-used.false))
