-- The parts, one run after another, are the formula, and its trailer ends the line.
use Rattle.output.specs.Written.{then}
use Rattle.wp_writer.specs.Loops.{guard_linked, invariant_linked}
use Rattle.line_writer.specs.Spelled.{finishing}
use Rattle.line_writer.specs.Loops.{node_ready, exit_before, exit_walked, wrote_exit, line_walked}
use Rattle.line_writer.proofs.write_exit.Goals as goal

pub write_formula-requires : goal.write_formula-requires
write_formula-requires c = node_ready _ _ c.requires.0.table (invariant_linked _ _ c.requires.0) c.invariant.ensures

pub write_formula-requires-2 : goal.write_formula-requires-2
write_formula-requires-2 c = node_ready _ _ c.requires.0.table (guard_linked _ _ c.requires.0) c.field.ensures

pub write_before-requires : goal.write_before-requires
write_before-requires c = exit_before _ _ _ _ c.requires.0 c.requires.1 c.next-next.ensures

pub finish_line-requires : goal.finish_line-requires
finish_line-requires c =
    let q = exit_walked _ _ _ _ c.requires.0 c.requires.1 c.next-next.ensures c.write_before.ensures in
    finishing _ c.requires.0.table c.requires.0.inside c.requires.3 c.requires.2
    (wrote_exit _ _ _ _ c.field.ensures c.invariant.ensures (then c.push_kind.ensures c.push_kind-2.ensures)
    c.write_formula.ensures c.push_kind-3.ensures c.write_formula-2.ensures q.words)

pub returns : goal.returns
returns c =
    let q = exit_walked _ _ _ _ c.requires.0 c.requires.1 c.next-next.ensures c.write_before.ensures in
    line_walked _ _ _ _ q
    (wrote_exit _ _ _ _ c.field.ensures c.invariant.ensures (then c.push_kind.ensures c.push_kind-2.ensures)
    c.write_formula.ensures c.push_kind-3.ensures c.write_formula-2.ensures q.words)
    c.finish_line.ensures
