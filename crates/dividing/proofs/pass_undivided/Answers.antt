-- No D stands below the row at hand, and each turn says it of one row more.
use Rattle.std.proofs.Common.{◌≡◌, sym, ◌∙◌, arith}
use Rattle.dividing.specs.Kinds.{known_node, node_kind}
use Rattle.dividing.specs.Undivided.{past_row, past_node}
use Rattle.dividing.proofs.pass_undivided.Goals as goal
use Rattle.dividing.proofs.pass_undivided.Goals.{then-kind, else-kind}

pub loop-r-preserved : goal.loop-r-preserved
loop-r-preserved c =
    let t = c.args.table.now in
    let plain = sym c.is_division.ensures ∙ c.if-is_division.false in
    elim c.if-kind.branch [
      | then-kind w ↦
          rw w.follow-is
          (past_node t c.requires.0 c.loop-r.invariant (omega arith) c.field-kind.ensures plain
          (known_node t _ c.field-kind.ensures c.requires.0 (omega arith) w.if-kind.true))
      | else-kind w ↦
          rw w.follow-is
          (past_row t c.requires.0 c.loop-r.invariant (omega arith) c.field-kind.ensures plain
          (λ n. omega (arith, node_kind t _ c.field-kind.ensures n)))
    ]

pub returns : goal.returns
returns c =
    let f = c.loop-r.invariant.filled in
    let e : c.row_count-rows.result ≡ c.loop-r.r = omega arith in
    rw e f
