use Rattle.std.proofs.Common.{ℕ, arith}
use Rattle.std.proofs.lemmas.List.{length-replicate}
use Rattle.mender.specs.Parts.{parts_accepted, parts_more, parts_none, parts_refused}
use Rattle.mender.proofs.parts.check_parts.Goals as goal

pub loop-r-init : goal.loop-r-init
loop-r-init c = (c.kinds-kinds.ensures, parts_none (length-replicate {A = ℕ} 2048 0))

pub returns-in-Some : goal.returns-in-Some
returns-in-Some c =
    parts_refused _ c.loop-r.invariant.1 (omega (arith, c.row_count-r-end.ensures)) c.row_fault.ensures c.part_fault.ensures c.in-Some.is

pub loop-r-preserved : goal.loop-r-preserved
loop-r-preserved c = (
  c.loop-r.invariant.0,
  parts_more _ c.loop-r.invariant.1 (omega (arith, c.row_count-r-end.ensures)) c.row_fault.ensures c.part_fault.ensures c.in_default.is,
)

pub returns : goal.returns
returns c = parts_accepted c.loop-r.invariant.1 (omega (arith, c.row_count-r-end.ensures))
