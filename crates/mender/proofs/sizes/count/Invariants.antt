-- The array has the capped size of each row below r.
use Rattle.std.proofs.Common.{◌≡◌}
use Rattle.rows.specs.Patterns.{patterns}
use Rattle.mender.specs.Sizing.{Sizings}
use Rattle.mender.proofs.sizes.count.Given as goal

abbrev pub invariant-loop-r : goal.invariant-loop-r
invariant-loop-r l = (l.kinds ≡ patterns) × (Sizings l.fn.table l.r l.sizes)
