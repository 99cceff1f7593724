pub mod Worked
pub mod Kinds
