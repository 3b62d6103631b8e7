pub mod Sites
pub mod Layout
pub mod Constants
pub mod Parts
pub mod File
pub mod ReadBack
