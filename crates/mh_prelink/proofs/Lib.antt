pub mod Balance
pub mod Counting
pub mod Going
pub mod Running
pub mod Tallies
pub mod Turns
