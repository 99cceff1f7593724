use Rattle.std.proofs.Common.{arith, rules, ◌≡◌, ◌-◌, ℕ, ℤ, pos, List, length-set, get_or, to_z, of_z, w32, refl, ◌∙◌}
use Rattle.std.proofs.lemmas.List.{length-replicate}
use Rattle.script.specs.Laws.{back}
use Rattle.script.specs.Rows.{rows}
use Rattle.mender.specs.Checked.{Checked}
use Rattle.mender.specs.TableWriting.{wrote_row}
use Rattle.mender.specs.TableWritten.{pass_run, pass_start, pass_table, some_row, turn_ready}
use Rattle.mender.proofs.rewriting.write_table.Goals as goal

-- the script's row as a word
script_row : {t : List ℤ} {n : ℕ} → Checked t → n ≡ rows t → to_z w32 (of_z w32 (pos (n - 1))) ≡ pos (rows t - 1)
script_row {t} ok e = let a = ok.size.short in rw e (back {z = pos (rows t - 1)} (omega arith))

pub overflow_sub-total : goal.overflow_sub-total
overflow_sub-total c = omega (arith, some_row c.requires)

pub bounds-origins-total : goal.bounds-origins-total
bounds-origins-total c = omega (arith, some_row c.requires, c.requires.origins_held)

pub loop-k-init : goal.loop-k-init
loop-k-init c = (
  c.kinds-kinds.ensures,
  (length-replicate {A = ℕ} 2048 0, (c.requires.mendable, pass_start c.requires _ (script_row c.requires.checked c.row_count.ensures))),
)

pub write_row-requires : goal.write_row-requires
write_row-requires c =
    let i = c.loop-k.invariant in (
      turn_ready c.requires _ (script_row c.requires.checked c.row_count.ensures) i.1.1.1 c.loop-k-test.true
          (rw (back {z = get_or c.loop-k.origins (c.loop-k.k - 1) (pos 0)} (search rules)) at c.field_number-r.ensures),
      i.0,
    )

pub bounds-latest-r : goal.bounds-latest-r
bounds-latest-r c =
    let i = c.loop-k.invariant in
    let R = turn_ready c.requires _ (script_row c.requires.checked c.row_count.ensures) i.1.1.1 c.loop-k-test.true (rw (back {z = get_or c.loop-k.origins (c.loop-k.k - 1) (pos 0)} (search rules)) at c.field_number-r.ensures) in
    omega (arith, R.inside, c.requires.checked.size.short)

pub loop-k-preserved : goal.loop-k-preserved
loop-k-preserved c =
    let i = c.loop-k.invariant in
    let W = wrote_row _ i.1.1.0 _ _ i.1.1.1 c.loop-k-test.true (rw (back {z = get_or c.loop-k.origins (c.loop-k.k - 1) (pos 0)} (search rules)) at c.field_number-r.ensures) c.write_row.ensures i.1.0 refl in
    (i.0, (length-set c.loop-k.latest _ _ ∙ i.1.0, (i.1.1.0, W)))

pub returns-clause-table : goal.returns-clause-table
returns-clause-table c = pass_table c.requires _ (script_row c.requires.checked c.row_count.ensures) c.loop-k.invariant.1.1.1 c.loop-k-test.false

pub returns-clause-origins : goal.returns-clause-origins
returns-clause-origins c = pass_run c.requires _ (script_row c.requires.checked c.row_count.ensures) c.loop-k.invariant.1.1.1 c.loop-k-test.false
