pub mod Resolving
pub mod Concatenating
pub mod JobCalls
pub mod AskedConstants
pub mod Outcomes
pub mod Holding
pub mod SiteCalls
pub mod Crossing
