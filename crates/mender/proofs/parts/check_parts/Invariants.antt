-- No row below r has one of 2 to 5, and the states show the rows linked so far.
use Rattle.std.proofs.Common.{◌≡◌}
use Rattle.rows.specs.Patterns.{patterns}
use Rattle.mender.specs.Parts.{PartsAt}
use Rattle.mender.proofs.parts.check_parts.Given as goal

abbrev pub invariant-loop-r : goal.invariant-loop-r
invariant-loop-r l = (l.kinds ≡ patterns) × PartsAt l.fn.table l.r l.states
