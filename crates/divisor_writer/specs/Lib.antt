pub mod Words
pub mod Under
pub mod Ready
pub mod Turns
pub mod Wrong
