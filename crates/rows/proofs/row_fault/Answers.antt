-- The letters of the kind say what the fields are asked.
use Rattle.std.proofs.Common.{refl, arith}
use Rattle.rows.specs.States.{sort_letter, unlisted_row, unknown_row, row_tested}
use Rattle.rows.proofs.row_fault.Goals as goal

pub returns-then-kind-gt48 : goal.returns-then-kind-gt48
returns-then-kind-gt48 c = unlisted_row c.args.table.now c.args.r c.field-kind.ensures c.if-kind-gt48.true

pub returns-then-sort-eq85 : goal.returns-then-sort-eq85
returns-then-sort-eq85 c =
    unknown_row c.args.table.now c.args.r c.field-kind.ensures (omega (arith, c.if-kind-gt48.false))
    (sort_letter _ c.requires.1) c.if-sort-eq85.true

pub returns : goal.returns
returns c =
    row_tested c.args.table.now c.args.r c.field-kind.ensures (omega (arith, c.if-kind-gt48.false))
    c.requires.0 (sort_letter _ c.requires.1) c.if-sort-eq85.false refl
    (rw (c.requires.1, c.row_count-rows.ensures, c.field.ensures) at c.field_fault-a.ensures)
    (rw (c.requires.1, c.row_count-rows.ensures, c.field-2.ensures) at c.field_fault-b.ensures)
    (rw (c.requires.1, c.row_count-rows.ensures, c.field-3.ensures) at c.field_fault-c.ensures)
    c.first.ensures c.first-2.ensures
