pub mod Roots
pub mod Several
