pub mod Answers
pub mod Outcomes
pub mod Whole
