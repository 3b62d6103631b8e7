pub mod Constants
pub mod Examples
pub mod FileLaw
pub mod FoundSites
pub mod NamedBootstraps
mod NamedDynamics
pub mod Numbers
pub mod SitesLoop
pub mod Spans
mod Spelled
