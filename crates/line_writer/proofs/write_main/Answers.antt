-- The parts, one run after another, are the formula, and its trailer ends the line.
use Rattle.std.proofs.Common.{arith}
use Rattle.wp_writer.specs.Loops.{pre_linked}
use Rattle.line_writer.specs.Spelled.{finishing}
use Rattle.line_writer.specs.Loops.{node_ready, main_before, wrote_main, line_walked}
use Rattle.line_writer.proofs.write_main.Goals as goal

pub write_formula-requires : goal.write_formula-requires
write_formula-requires c = node_ready _ _ c.requires.0.scripts.table (pre_linked _ _ c.requires.0.scripts) c.field.ensures

pub write_before-requires : goal.write_before-requires
write_before-requires c = main_before _ _ _ _ c.requires.0 c.field-statement.ensures

pub finish_line-requires : goal.finish_line-requires
finish_line-requires c =
    finishing _ c.requires.0.scripts.table c.requires.0.scripts.inside (omega arith) c.requires.1
    (wrote_main _ _ _ _ c.requires.0 c.field-statement.ensures c.field.ensures c.push_kind.ensures c.write_formula.ensures
    c.write_before.ensures)

pub returns : goal.returns
returns c =
    line_walked _ _ _ _ c.write_before.ensures
    (wrote_main _ _ _ _ c.requires.0 c.field-statement.ensures c.field.ensures c.push_kind.ensures c.write_formula.ensures
    c.write_before.ensures)
    c.finish_line.ensures
