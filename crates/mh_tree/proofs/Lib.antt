pub mod CallBounds
pub mod CallRuns
pub mod Calls
pub mod CallWeights
pub mod Concatenated
pub mod Converted
pub mod Host
mod Lengths
pub mod LimitedEndings
pub mod LimitedLists
pub mod LimitedMeaning
pub mod LimitedNodes
pub mod LimitedRuns
pub mod LimitedValues
pub mod Orders
pub mod OtherCalls
pub mod Provided
pub mod Registered
pub mod Returning
pub mod RowParts
pub mod RowPartsAdapters
pub mod SoundAdapters
pub mod SoundBranches
pub mod SoundConversions
pub mod SoundFinally
pub mod SoundGather
pub mod SoundLoops
pub mod SoundRoots
pub mod SoundSpread
pub mod Soundness
pub mod Trivial
pub mod TypedLists
pub mod TypedWeights
pub mod Uses
mod WorkedAdapters
mod WorkedBranches
mod WorkedCalls
mod WorkedConcatenations
mod WorkedConversions
mod WorkedEndings
mod WorkedWeights
