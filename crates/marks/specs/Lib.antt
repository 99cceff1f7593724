pub mod Stack
pub mod Quads
pub mod Turns
pub mod Going
pub mod Texts
