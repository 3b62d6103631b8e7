pub mod HoldOrders
pub mod SingleHolds
pub mod BackwardHolds
pub mod Trading
pub mod UnformedHandles
