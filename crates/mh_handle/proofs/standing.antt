pub mod Erasing
pub mod Standing
pub mod LeafStands
pub mod Copying
pub mod Answering
