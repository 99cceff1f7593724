-- The parts, one run after another, are the formula, and its trailer ends the line.
use Rattle.wp_writer.specs.Loops.{variant_linked}
use Rattle.line_writer.specs.Spelled.{finishing, line_finished}
use Rattle.line_writer.specs.Loops.{node_ready, wrote_floor}
use Rattle.line_writer.proofs.write_floor.Goals as goal

pub write_expression-requires : goal.write_expression-requires
write_expression-requires c = node_ready _ _ c.requires.0.table (variant_linked _ _ c.requires.0) c.variant.ensures

pub finish_line-requires : goal.finish_line-requires
finish_line-requires c =
    finishing _ c.requires.0.table c.requires.0.inside c.requires.2 c.requires.1
    (wrote_floor _ _ _ c.variant.ensures c.push_kind.ensures c.write_entered.ensures c.push_kind-2.ensures c.push_constant.ensures
    c.write_expression.ensures)

pub returns : goal.returns
returns c =
    line_finished _ _ _ _
    (wrote_floor _ _ _ c.variant.ensures c.push_kind.ensures c.write_entered.ensures c.push_kind-2.ensures c.push_constant.ensures
    c.write_expression.ensures)
    c.finish_line.ensures
