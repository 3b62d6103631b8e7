mod InHand
pub mod Building
