pub mod Dot
pub mod Drawing
pub mod Fields
pub mod Places
pub mod Why
