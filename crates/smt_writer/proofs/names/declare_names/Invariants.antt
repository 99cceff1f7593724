-- `smt_writer::names::declare_names`: the names from the first place to below k are declared.
use Rattle.std.proofs.Common.{◌-◌, ◌≤◌}
use Rattle.output.specs.Written.{Written}
use Rattle.smt_writer.specs.Noted.{declared_from}
use Rattle.smt_writer.proofs.names.declare_names.Given as goal

abbrev pub invariant-loop-k : goal.invariant-loop-k
invariant-loop-k l =
    (l.first ≤ l.k) × (l.k - l.first ≤ l.top - l.first) × Written l.initial.out (declared_from l.flags l.first (l.k - l.first)) l.out
