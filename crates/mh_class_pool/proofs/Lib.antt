pub mod NextEntry
pub mod Dynamics
pub mod PoolLoop
pub mod Each
pub mod Failing
pub mod Examples
