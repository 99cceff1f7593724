-- Document 01, and what 02 changed in it, as definitions, in the order in which they are best read, up to `Promise`. Then 01's trial rows
-- and the figures of 02, P5 and P9, by computation; last laws that the code's proofs cite.
pub mod Rows
pub mod Syntax
pub mod Meaning
pub mod Run
pub mod Conditions
pub mod Words
pub mod Trees
pub mod Refusals
pub mod Generated
pub mod Listing
pub mod WellFormed
pub mod Promise
pub mod Computed
pub mod DivisionFigures
pub mod DivisionRuns
pub mod DepthFigures
pub mod Kinds
pub mod Laws
