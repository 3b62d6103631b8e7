pub mod Limits
pub mod Going
pub mod Rooms
pub mod Obeying
pub mod Refusals
