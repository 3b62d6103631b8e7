pub mod UsedRecipes
pub mod Calling
pub mod Distinct
pub mod Counted
pub mod Needed
