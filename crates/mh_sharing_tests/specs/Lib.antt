pub mod Hands
pub mod Built
