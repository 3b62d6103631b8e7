pub mod Sites
pub mod SiteSerials
pub mod LinkPasses
pub mod ThreadRuns
pub mod NamedSites
pub mod LinkSteps
pub mod ThreadSteps
pub mod Resolving
