pub mod Arguments
pub mod Bootstraps
pub mod Host
pub mod NumberedOn
pub mod Numbering
pub mod OfClasses
pub mod Parted
pub mod Parts
pub mod ReadOnce
pub mod Recorded
mod ScriptOwners
pub mod Telling
mod WorkedArguments
mod WorkedConstants
mod WorkedJobs
