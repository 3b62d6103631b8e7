pub mod ConvertedParameters
pub mod ConvertedSlots
pub mod AsTypeResults
pub mod AsTypeRuns
pub mod TrivialConversions
pub mod AsTypeForms
pub mod AsTypeStands
