pub mod assigned
pub mod types
pub mod asked
pub mod nodes
pub mod running
pub mod beginnings
pub mod linking
