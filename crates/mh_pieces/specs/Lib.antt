pub mod Joined
pub mod Recipe
pub mod ValueText
