-- `smt_writer::terms::write_node`, `write_division` and `write_by_zero`, which call each other: places in the words rise, and a
-- division is written at the place of its node, before its parts. At each turn, whatever writes the part at hand writes the whole.
use Rattle.std.proofs.Common.{◌+◌, ◌*◌, ◌-◌, length}
use Rattle.smt_writer.specs.Turns.{Turns}
use Rattle.smt_writer.proofs.terms.+write_by_zero_write_division_write_node.Given as goal

abbrev pub decreases-write_by_zero : goal.decreases-write_by_zero
decreases-write_by_zero l = 4 * (length l.words.now - l.at) + 1

abbrev pub decreases-write_division : goal.decreases-write_division
decreases-write_division l = 4 * (length l.words.now - l.at) + 2

abbrev pub decreases-write_node : goal.decreases-write_node
decreases-write_node l = 4 * (length l.words.now - l.first) + 3

abbrev pub invariant-write_node-loop-kind : goal.invariant-write_node-loop-kind
invariant-write_node-loop-kind l = Turns l.words l.first l.initial.out l.at l.closing l.out

abbrev pub decreases-write_node-loop-kind : goal.decreases-write_node-loop-kind
decreases-write_node-loop-kind l = length l.words - l.at
