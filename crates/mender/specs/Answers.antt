-- What the mender answers, field by field: numbers and rows are those of the papers, with zeros for counts where a table is refused.
-- Assumes nothing.
use Rattle.std.specs.Prelude.{ℕ, Result, Ok, Err}
use Rattle.mender.specs.declared.Counts.{Counts}
use Rattle.mender.specs.declared.Unmendable.{Unmendable}
use Rattle.rows.specs.Numbers.{number as fault_number}

abbrev pub number : Unmendable → ℕ
number (Unmendable.Refused e) = fault_number e.fault
number (Unmendable.MarkOutside r) = 13
number Unmendable.TooLong = 14

abbrev pub row : Unmendable → ℕ
row (Unmendable.Refused e) = e.row.0
row (Unmendable.MarkOutside r) = r.0
row Unmendable.TooLong = 0

abbrev pub number_of : Result Counts Unmendable → ℕ
number_of (Ok a) = 0
number_of (Err e) = number e

abbrev pub row_of : Result Counts Unmendable → ℕ
row_of (Ok a) = 0
row_of (Err e) = row e

abbrev pub words_of : Result Counts Unmendable → ℕ
words_of (Ok a) = a.words
words_of (Err e) = 0

abbrev pub dropped_of : Result Counts Unmendable → ℕ
dropped_of (Ok a) = a.dropped
dropped_of (Err e) = 0

abbrev pub copied_of : Result Counts Unmendable → ℕ
copied_of (Ok a) = a.copied
copied_of (Err e) = 0
