pub mod Host
pub mod HostLeaves
pub mod CallsOfSites
mod WorkedAdapters
mod WorkedBranchCalls
mod WorkedCalls
mod WorkedConcatenations
mod WorkedConstants
mod WorkedSiteConstants
mod WorkedEndings
mod WorkedEnds
mod WorkedLines
mod WorkedNodes
mod WorkedOperands
mod WorkedRows
