pub mod Running
mod SharedCrossing
mod SharedLines
pub mod Host
pub mod TableSerials
mod CallTexts
mod WorkedReports
mod WorkedRuns
mod WorkedTypes
