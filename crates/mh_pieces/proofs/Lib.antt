pub mod Bounds
pub mod Hexadecimal
pub mod Joins
pub mod Returned
mod Rows
pub mod Taken
