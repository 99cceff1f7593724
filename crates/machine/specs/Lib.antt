pub mod Playing
pub mod Whole
