pub mod Counts
pub mod Files
pub mod Plan
pub mod Sites
pub mod Texts
