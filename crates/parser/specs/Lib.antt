pub mod Symbols
pub mod Machine
pub mod Wrong
pub mod Readers
