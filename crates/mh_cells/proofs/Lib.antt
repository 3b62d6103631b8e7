pub mod PlacedValues
pub mod Joining
pub mod WorkedCells
