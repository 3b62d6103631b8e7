pub mod Basics
pub mod KeyNumbers
pub mod SameRecipes
pub mod Recipes
