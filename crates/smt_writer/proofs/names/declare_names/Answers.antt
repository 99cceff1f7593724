-- `smt_writer::names::declare_names` meets its contract.
use Rattle.std.proofs.Common.{sym, ap, arith}
use Rattle.output.specs.Written.{then, nothing_written, written_as}
use Rattle.smt_writer.specs.Noted.{declared_from, declared_none, declared_more}
use Rattle.smt_writer.proofs.names.declare_names.Goals as goal

pub loop-k-init : goal.loop-k-init
loop-k-init c = (omega arith, omega arith, written_as (sym (declared_none _ _)) (nothing_written _))

pub loop-k-preserved : goal.loop-k-preserved
loop-k-preserved c =
    let inv = c.loop-k.invariant in
    (omega arith, omega arith, written_as (sym (declared_more _ _ _ inv.0)) (then inv.2 c.declare_noted.ensures))

pub returns : goal.returns
returns c = written_as (ap (declared_from c.args.flags.now _) (omega arith)) c.loop-k.invariant.2
