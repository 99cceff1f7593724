-- What is written after the rows from k up.
use Rattle.std.proofs.Common.{◌≡◌, length}
use Rattle.rows.specs.Patterns.{patterns}
use Rattle.mending.specs.Mendable.{Mendable}
use Rattle.mender.specs.TableWriting.{Wrote}
use Rattle.mender.proofs.rewriting.write_table.Given as goal

abbrev pub invariant-loop-k : goal.invariant-loop-k
invariant-loop-k l =
    (l.kinds ≡ patterns) × ((length l.latest ≡ 2048)
    × ((ok : Mendable l.fn.table) × Wrote l.fn.table ok (length l.initial.new) (length l.initial.origins) l.k l.new l.origins l.latest))
