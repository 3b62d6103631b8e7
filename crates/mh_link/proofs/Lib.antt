pub mod typing
pub mod constants
pub mod walking
pub mod worked
