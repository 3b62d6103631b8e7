pub mod Builders
mod ClassNames
pub mod Digits
mod Examples
pub mod Gotten
pub mod Limits
pub mod Parses
