-- The mender, for the code's proofs: rows by their letters; the loops around the uses of a row, and the pass that finds them;
-- sizes; the new table as it is written; the whole answer.
pub mod Letters
pub mod Checked
pub mod Parts
pub mod Loops
pub mod Uses
pub mod Fields
pub mod Sweep
pub mod Reaching
pub mod RowUses
pub mod Sizing
pub mod FieldWriting
pub mod RowWords
pub mod RowWriting
pub mod TableWriting
pub mod TableWritten
pub mod Answers
pub mod Whole
