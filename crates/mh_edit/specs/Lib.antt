pub mod Applied
pub mod Fit
pub mod Law
pub mod Rename
