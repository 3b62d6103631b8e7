pub mod LinkedSites
