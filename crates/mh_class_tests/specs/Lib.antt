pub mod Alone
pub mod LinkedFiles
