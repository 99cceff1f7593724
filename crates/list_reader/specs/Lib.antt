pub mod Nodes
pub mod Ends
pub mod Lines
pub mod Computed
