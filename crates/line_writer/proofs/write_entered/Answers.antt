-- The words of each part, one run after another.
use Rattle.wp_writer.specs.Loops.{guard_linked, invariant_linked}
use Rattle.line_writer.specs.Loops.{node_ready, wrote_entered}
use Rattle.line_writer.proofs.write_entered.Goals as goal

pub write_formula-requires : goal.write_formula-requires
write_formula-requires c = node_ready _ _ c.requires.table (invariant_linked _ _ c.requires) c.invariant.ensures

pub write_formula-requires-2 : goal.write_formula-requires-2
write_formula-requires-2 c = node_ready _ _ c.requires.table (guard_linked _ _ c.requires) c.field.ensures

pub returns : goal.returns
returns c =
    wrote_entered _ _ _ c.field.ensures c.invariant.ensures c.push_kind.ensures c.write_formula.ensures c.write_formula-2.ensures
