-- The pass that shortens a list, for the code's proofs: numbers for shapes and changes, the entry of a word, and that entries are right;
-- what the writer of a formula meets, has ahead, and does at each turn; lines, and the whole answer. Last the entry over two lists.
pub mod Codes
pub mod Runs
pub mod Entries
pub mod NodeEntries
pub mod EntryLaws
pub mod Planning
pub mod Heads
pub mod Tasks
pub mod Turns
pub mod Arms
pub mod Moves
pub mod Lines
pub mod LineTurns
pub mod Whole
pub mod Parts
