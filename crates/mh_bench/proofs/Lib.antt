pub mod LettingGo
pub mod Turns
