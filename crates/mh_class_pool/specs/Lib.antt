pub mod Answers
pub mod Tags
pub mod ReferenceKinds
pub mod Entries
pub mod References
