-- What is said of the rows from r up holds on, and each turn says it of one row more.
use Rattle.std.proofs.Common.{◌≤◌}
use Rattle.script.specs.Rows.{rows}
use Rattle.following.specs.Filling.{Filled}
use Rattle.following.proofs.find_follow.Given as goal

abbrev pub invariant-loop-r : goal.invariant-loop-r
invariant-loop-r l = (l.r ≤ rows l.table) × Filled l.table l.follow l.r
