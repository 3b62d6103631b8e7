pub mod Lanes
pub mod Linkages
