pub mod Values
pub mod Learning
