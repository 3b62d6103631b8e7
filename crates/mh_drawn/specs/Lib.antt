pub mod Answer
pub mod Constants
pub mod Lines
pub mod Linked
pub mod Reading
pub mod Status
pub mod Words
