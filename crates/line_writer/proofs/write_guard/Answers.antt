-- Where the guard divides, the parts, one run after another, are the formula, and its trailer ends the line; where it does not,
-- there is none.
use Rattle.output.specs.Written.{then}
use Rattle.following.specs.Follow.{lent_whole}
use Rattle.wp_writer.specs.Loops.{invariant_linked}
use Rattle.line_writer.specs.Spelled.{finishing}
use Rattle.line_writer.specs.Loops.{node_ready}
use Rattle.line_writer.specs.Guards.{guard_below, guard_divisors, guard_listed, guard_unlisted}
use Rattle.line_writer.proofs.write_guard.Goals as goal

pub divides-requires : goal.divides-requires
divides-requires c =
    rw (c.row_count-rows.ensures, lent_whole c.args.table.now c.args.scratch.now) (guard_below _ _ _ c.requires.0 c.field.ensures)

pub write_formula-requires : goal.write_formula-requires
write_formula-requires c =
    node_ready _ _ c.requires.0.loops.table (invariant_linked _ _ c.requires.0.loops) c.invariant.ensures

pub write_divisors-requires : goal.write_divisors-requires
write_divisors-requires c =
    rw (c.row_count-rows.ensures, lent_whole c.args.table.now c.args.scratch.now) (guard_divisors _ _ _ c.requires.0 c.field.ensures _)

pub finish_line-requires : goal.finish_line-requires
finish_line-requires c =
    finishing _ c.requires.0.loops.table c.requires.0.loops.inside c.requires.2 c.requires.1
    (then c.push_kind.ensures (then c.write_formula.ensures c.write_divisors.ensures))

pub returns-then-divides : goal.returns-then-divides
returns-then-divides c =
    let told = rw (c.row_count-rows.ensures, lent_whole c.args.table.now c.args.scratch.now) at c.divides.ensures in
    guard_listed _ _ _ c.requires.0 c.field.ensures told _ c.if-divides.true c.invariant.ensures
    c.push_kind.ensures c.write_formula.ensures c.write_divisors.ensures c.finish_line.ensures

pub returns-else-divides : goal.returns-else-divides
returns-else-divides c =
    let told = rw (c.row_count-rows.ensures, lent_whole c.args.table.now c.args.scratch.now) at c.divides.ensures in
    guard_unlisted _ _ _ c.requires.0 c.field.ensures told c.if-divides.false _ _
