pub mod Callable
pub mod Crossing
