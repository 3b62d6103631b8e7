pub mod Limits
pub mod Typed
pub mod TypedConversions
