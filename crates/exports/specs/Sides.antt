-- Which of two lists a part stands in, as a number. Assumes nothing.
use Rattle.std.specs.Prelude.{ℕ}
use Rattle.shortening.specs.Shortened.{Which, old, new}

abbrev pub side_number : Which → ℕ
side_number old = 0
side_number new = 1
