pub mod Asking
pub mod Calling
pub mod ConvertKeys
pub mod Editing
pub mod OwnCalls
pub mod Trading
pub mod Using
