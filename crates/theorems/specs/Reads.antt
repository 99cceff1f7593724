-- What reading a row gives, and which names are frozen, computed at one input each: a wrong answer differs there. Assumes
-- nothing.
use Rattle.std.specs.Prelude.{◌≡◌, refl, true, false, pos, negsuc}
use Rattle.script.specs.declared.ExpressionRow.TheVariants.{Variable, Mark}
use Rattle.script.specs.declared.StatementRow.TheVariants.{Skip, Sequence}
use Rattle.script.specs.declared.Row.TheVariants as Row
use Rattle.script.specs.Rows.{field_number, row_no, var_no, row_of, row, word}
use Rattle.script.specs.Refusals.{frozen}
use Rattle.script.specs.Computed.{◌⨾◌, four_rows}

-- a negative field is beyond every range, and no other is
negative_field : (field_number (negsuc 0) ≡ 4294967295) × (field_number (pos 7) ≡ 7)
negative_field = (refl, refl)

-- the first and the last frozen name, each with the ordinary one beside it
frozen_ends : (frozen 127 ≡ false) × ((frozen 128 ≡ true) × ((frozen 255 ≡ true) × (frozen 256 ≡ false)))
frozen_ends = (refl, (refl, (refl, refl)))

-- a mark is no variable, a sequence keeps its order, and a kind that is not listed is unknown
record KindsRead : Type 0 where
  mark : row_of 9 (pos 3) (pos 0) (pos 0) ≡ Row.Expression (Mark (row_no (pos 3)))
  variable : row_of 2 (pos 3) (pos 0) (pos 0) ≡ Row.Expression (Variable (var_no (pos 3)))
  sequence : row_of 34 (pos 1) (pos 2) (pos 0) ≡ Row.Statement (Sequence (row_no (pos 1)) (row_no (pos 2)))
  unlisted : row_of 11 (pos 1) (pos 2) (pos 0) ≡ Row.Unknown

kinds_read : KindsRead
unfolding row_of
kinds_read = record { mark = refl; variable = refl; sequence = refl; unlisted = refl }

-- four words to a row, counted from 0
rows_read : (row four_rows 1 ≡ Row.Statement Skip) × (row four_rows 3 ≡ Row.Script (row_no (pos 0)) (row_no (pos 1)) (row_no (pos 2)))
unfolding row row_of four_rows ◌⨾◌
rows_read = (refl, refl)

-- a field is that of its own row and place: the script's statement and postcondition, and the kind of the row before
fields_read : (field_number (word four_rows 3 2) ≡ 1) × ((field_number (word four_rows 3 3) ≡ 2) × (field_number (word four_rows 2 0) ≡ 16))
unfolding four_rows ◌⨾◌
fields_read = (refl, (refl, refl))
