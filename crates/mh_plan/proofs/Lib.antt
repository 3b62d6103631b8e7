pub mod Tokens
pub mod ReadOn
pub mod Threads
pub mod Fitting
pub mod FoundCalls
pub mod FoundSites
pub mod Counted
pub mod Host
pub mod Limits
mod CallsAgain
mod EachCall
mod LinesAgain
mod PlanAgain
mod ReadWritten
mod WorkedPlans
mod WrittenArguments
mod WrittenCalls
mod WrittenLeaves
mod WrittenRows
