pub mod Calls
pub mod Use
