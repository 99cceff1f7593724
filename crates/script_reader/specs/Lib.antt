-- The reader of a text, put together: what a result tells (`Results`), what is known between its parts (`Takes`), the scan from a place on (`Rests`),
-- the loop over the tokens (`Going`), and the answer (`Reads`). Assumes nothing.
pub mod Results
pub mod Takes
pub mod Rests
pub mod Going
pub mod Reads
