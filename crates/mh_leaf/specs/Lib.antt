pub mod Ending
pub mod LeafTable
pub mod Limits
pub mod Outcome
pub mod WellTyped
