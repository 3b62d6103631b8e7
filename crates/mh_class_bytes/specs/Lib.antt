pub mod Position
pub mod Bytes
pub mod Mutf8
pub mod Chars
pub mod Format
