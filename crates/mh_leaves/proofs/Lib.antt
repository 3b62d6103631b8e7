mod Again
mod FaultNames
pub mod Finding
pub mod Growing
pub mod Keeping
mod KnownLines
mod KnownNames
mod LineParts
mod MadeOf
mod Meanings
pub mod Numbering
pub mod Once
mod ReadLines
mod ReadNames
mod Steady
mod Stops
mod TakenAgain
mod TakenLines
pub mod Tokens
pub mod Typed
mod UnknownLines
mod UnknownNames
mod Words
mod WrittenKeys
mod WrittenRows
