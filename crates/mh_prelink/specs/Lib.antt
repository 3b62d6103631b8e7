pub mod Lanes
pub mod Owners
pub mod Results
pub mod Steps
pub mod Tallies
