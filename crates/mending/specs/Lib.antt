-- 02, P7: tables with shared parts, mended. First what is to be believed: the order of the new rows, their words, what
-- the script reaches, and what the mender answers and leaves. Then what 13 and 14 say, and what a table has that is not
-- refused; the new table's rows, links, sorts and marks; that it unfolds to the same script, and has the same runs;
-- what the run of old rows and the counts say; tables that come back the same; laws for the code. `Mending` gathers
-- what 02 asks; then a witness, figures, and wrong turns.

-- ---- what is to be believed

pub mod Copies
pub mod NewTable
pub mod Reached
pub mod Mended
-- ---- 2 to 5, 13 and 14

pub mod Falling
pub mod PartFaults
pub mod Paths
pub mod Escape
pub mod Sizes
pub mod Layout
pub mod Capped
pub mod Mendable
pub mod Numbers
pub mod Occasions
-- ---- the new table passes 1 to 7

pub mod Renew
pub mod NewRows
pub mod NewLinks
pub mod InnerCopies
pub mod LinkedOnce
pub mod KeptFields
pub mod Passing
-- ---- the same script, marks apart

pub mod Nameless
pub mod InScope
pub mod NextCopy
pub mod Renaming
pub mod Everywhere
pub mod RowCases
pub mod Unfolded
-- ---- the same runs

pub mod ScopedTrees
pub mod NamelessRun
pub mod RunSeen
pub mod SameRuns
-- ---- the run of old rows, the order, the counts

pub mod OldRows
pub mod Order
pub mod Counts
pub mod FieldWords
pub mod SameTable
pub mod AcceptedTables
-- ---- laws for the code

pub mod Filling
-- ---- what 02 asks, sentence by sentence

pub mod Mending
pub mod Witness
-- ---- figures

pub mod Figures
pub mod RandomFigures
-- ---- wrong turns

pub mod Variants
pub mod RightWay
pub mod Wrong
