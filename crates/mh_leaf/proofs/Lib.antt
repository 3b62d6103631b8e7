pub mod ArgumentTypes
pub mod Limits
pub mod Outcomes
pub mod SingleOutcomes
pub mod TextUnits
