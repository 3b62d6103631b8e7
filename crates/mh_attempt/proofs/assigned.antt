pub mod Assigning
pub mod AssignedHolds
pub mod RegisterContents
pub mod RegisterTypes
pub mod RoomyRegisters
pub mod RunRegisters
pub mod OtherRegisters
pub mod TakenRegisters
