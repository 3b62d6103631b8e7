mod ArrayTrip
mod CommaCuts
mod ComponentTrip
pub mod Cuts
mod Fronts
mod HexTrip
mod ItemAgain
mod ItemBytes
mod ItemTrip
mod Literals
pub mod LiteralAgain
mod LiteralBytes
pub mod LiteralGraphic
mod Marks
mod NameTrip
pub mod NumberTrip
mod Numbers
mod PrintedBack
mod Printing
pub mod RoundTrip
mod SpelledDigits
mod SpelledArrays
mod SpelledComponents
mod SpelledItems
pub mod SpelledNumbers
mod SpelledObjects
mod SpelledRead
mod SpelledText
pub mod SpelledValues
mod TextTrip
pub mod WithinLimits
