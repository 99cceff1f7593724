use Rattle.table.specs.Reading.{reading_refused, reading_accepted}
use Rattle.table.proofs.names.check_reading.Goals as goal

pub returns-then-m-rows : goal.returns-then-m-rows
returns-then-m-rows c = reading_refused c.requires.size (rw c.row_count-rows.ensures at c.lowest_misread-m.ensures) (rw c.row_count-rows.ensures at c.if-m-rows.true)

pub returns : goal.returns
returns c = reading_accepted c.requires.size (rw c.row_count-rows.ensures at c.lowest_misread-m.ensures) (rw c.row_count-rows.ensures at c.if-m-rows.false)
