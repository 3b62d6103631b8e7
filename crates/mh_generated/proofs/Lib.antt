pub mod Counting
pub mod Digits
pub mod Lines
pub mod Makeable
