pub mod Links
pub mod Paths
pub mod Nodes
pub mod Kinds
pub mod Search
pub mod Replacing
pub mod Turns
pub mod Wrong
