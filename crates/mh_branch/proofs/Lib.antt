mod ArrayAnswers
pub mod ArrayFits
pub mod ArrayShapes
pub mod Branching
mod CatchAnswers
mod CatchStands
pub mod Computing
mod GatherStands
mod GatheredArrays
mod Growing
mod GuardAnswers
mod GuardStands
mod RootAnswers
mod RootStands
pub mod Rooted
pub mod Trading
