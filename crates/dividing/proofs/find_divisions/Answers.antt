-- What is said of the rows below r holds on, and each turn says it of one row more.
use Rattle.std.proofs.Common.{arith, to_z-of_z}
use Rattle.dividing.specs.Kinds.{known_node, node_kind}
use Rattle.dividing.specs.Filling.{done, row_ready, filled_past, filled_more, entry_fits}
use Rattle.dividing.proofs.find_divisions.Goals as goal
use Rattle.dividing.proofs.find_divisions.Goals.{then-field, else-field}

pub find_entry-requires : goal.find_entry-requires
find_entry-requires c =
    let t = c.args.table.now in
    row_ready t c.requires.0 c.loop-r.invariant (omega arith)
    (known_node t _ c.field.ensures c.requires.0 (omega arith) c.if-field.true)

pub overflow_cast-follow : goal.overflow_cast-follow
overflow_cast-follow c = entry_fits c.args.table.now c.requires.0 c.loop-r.invariant (omega arith) c.find_entry.ensures

pub loop-r-preserved : goal.loop-r-preserved
loop-r-preserved c =
    let t = c.args.table.now in
    elim c.if-field.branch [
      | then-field w ↦
          rw w.follow-is
          (filled_more t c.requires.0 c.loop-r.invariant (omega arith)
          (known_node t _ c.field.ensures c.requires.0 (omega arith) w.if-field.true)
          w.find_entry.ensures (to_z-of_z (entry_fits t c.requires.0 c.loop-r.invariant (omega arith) w.find_entry.ensures)))
      | else-field w ↦
          rw w.follow-is
          (filled_past t c.requires.0 c.loop-r.invariant (omega arith)
          (λ n. omega (arith, node_kind t _ c.field.ensures n)))
    ]

pub returns : goal.returns
returns c = done c.args.table.now c.requires.0 c.loop-r.invariant (omega arith)
