-- The number and the bytes that are left make the run's.
use Rattle.std.proofs.Common.{◌+◌}
use Rattle.scanner.proofs.Folds.{Partly}
use Rattle.scanner.proofs.runs.run_at.Given as goal

abbrev pub invariant-loop-passed : goal.invariant-loop-passed
invariant-loop-passed g l = let b = g.B.Bytes in Partly b.passes b.fold b.top l.fn.text l.fn.at (l.fn.at + l.passed) l.number
