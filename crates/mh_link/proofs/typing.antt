pub mod Concatenations
pub mod Targets
pub mod Leaves
pub mod Nodes
pub mod Attempts
pub mod Uses
