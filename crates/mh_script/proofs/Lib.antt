mod ExampleFiles
mod Examples
mod FollowingLines
mod LinesAgain
mod LiteralTokens
mod OperationWords
mod Operands
mod OperationsAgain
mod ReadScripts
mod ScriptsAgain
mod StandingLines
mod WrittenFiles
mod WrittenLines
mod WrittenOperands
mod WrittenOperations
mod WrittenValues
pub mod Divisors
pub mod Faultless
pub mod FaultlessOperations
pub mod GraphicTokens
pub mod Nested
pub mod OtherCounts
pub mod Places
pub mod References
pub mod Runnable
pub mod Written
