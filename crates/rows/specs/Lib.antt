pub mod Numbers
pub mod Patterns
pub mod Faults
pub mod States
