pub mod Words
pub mod Lexed
pub mod Progress
pub mod Folds
