-- The parts, one run after another, are the formula, and its trailer ends the line.
use Rattle.output.specs.Written.{then}
use Rattle.wp_writer.specs.Loops.{variant_linked}
use Rattle.line_writer.specs.Spelled.{finishing}
use Rattle.line_writer.specs.Loops.{node_ready, step_before, wrote_step, line_walked}
use Rattle.line_writer.proofs.write_step.Goals as goal

pub write_expression-requires : goal.write_expression-requires
write_expression-requires c =
    node_ready _ _ c.requires.0.loops.table (variant_linked _ _ c.requires.0.loops) c.variant.ensures

pub write_before-requires : goal.write_before-requires
write_before-requires c = step_before _ _ _ c.requires.0 c.field-body.ensures

pub finish_line-requires : goal.finish_line-requires
finish_line-requires c =
    finishing _ c.requires.0.loops.table c.requires.0.loops.inside c.requires.2 c.requires.1
    (wrote_step _ _ _ c.requires.0 c.field-body.ensures c.variant.ensures (then c.push_kind.ensures c.push_kind-2.ensures)
    c.write_entered.ensures c.push_kind-3.ensures c.write_expression.ensures c.push_mark.ensures c.write_before.ensures)

pub returns : goal.returns
returns c =
    line_walked _ _ _ _ c.write_before.ensures
    (wrote_step _ _ _ c.requires.0 c.field-body.ensures c.variant.ensures (then c.push_kind.ensures c.push_kind-2.ensures)
    c.write_entered.ensures c.push_kind-3.ensures c.write_expression.ensures c.push_mark.ensures c.write_before.ensures)
    c.finish_line.ensures
