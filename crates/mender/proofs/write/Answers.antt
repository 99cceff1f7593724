-- 14, or the new table and its counts.
use Rattle.std.proofs.Common.{ap, sym, ◌∙◌, ◌-◌, get_or, ℕ}
use Rattle.mender.specs.Whole.{enough, table_ready, told_mended, told_too_long}
use Rattle.mender.proofs.write.Goals as goal

pub returns-then-too_long : goal.returns-then-too_long
returns-then-too_long c =
    told_too_long c.requires.0 c.count.ensures (ap (λ (k : ℕ). get_or c.count.new.sizes (k - 1) 0) c.row_count-rows.ensures) c.requires.1.0 c.requires.1.1
    (sym c.if-too_long.true ∙ c.too_long.ensures)

-- ---- they fit

pub write_table-requires : goal.write_table-requires
write_table-requires c =
    table_ready c.requires.0 c.count.ensures (ap (λ (k : ℕ). get_or c.count.new.sizes (k - 1) 0) c.row_count-rows.ensures) c.requires.1.0 c.requires.1.1
    (sym c.if-too_long.false ∙ c.too_long.ensures)

pub overflow_sub-result-2 : goal.overflow_sub-result-2
overflow_sub-result-2 c =
    (enough c.requires.0 c.count.ensures (ap (λ (k : ℕ). get_or c.count.new.sizes (k - 1) 0) c.row_count-rows.ensures) c.requires.1.0 c.requires.1.1
    (sym c.if-too_long.false ∙ c.too_long.ensures)).0

pub returns : goal.returns
returns c =
    told_mended c.requires.0 c.count.ensures (ap (λ (k : ℕ). get_or c.count.new.sizes (k - 1) 0) c.row_count-rows.ensures) c.requires.1.0 c.requires.1.1
    (sym c.if-too_long.false ∙ c.too_long.ensures) c.row_count-rows.ensures c.write_table.ensures.table c.write_table.ensures.origins
