pub mod ReportedStops
pub mod LowestStops
pub mod OutsideStops
pub mod Reports
