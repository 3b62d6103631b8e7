pub mod recipes
pub mod chains
pub mod passes
pub mod holding
pub mod obeying
pub mod standing
pub mod conversions
