pub mod Forms
pub mod Prelinked
pub mod Recorded
pub mod Results
pub mod Sharing
pub mod Text
pub mod Types
