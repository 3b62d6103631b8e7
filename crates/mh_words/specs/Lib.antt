pub mod Number
pub mod Options
pub mod Words
