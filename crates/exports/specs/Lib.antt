pub mod Told
pub mod Verdicts
pub mod Sides
