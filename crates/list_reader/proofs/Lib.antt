-- where an expression or a formula ends
mod Opening
mod Parts
mod Least
mod Cutting
mod Joining
mod Reading
mod Lending
mod Waiting
mod NodeKinds
mod KindWords
-- the line that ends at a place
mod Tests
mod Forms
mod Trailers
pub mod Part
mod Stepping
pub mod Places
-- the whole list and the line at an index
mod Walking
mod Entries
pub mod Fitting
mod Telling
