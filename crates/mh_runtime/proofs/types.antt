pub mod TypeLists
pub mod SeatTypes
pub mod RecordedTypes
pub mod SeatKinds
pub mod HeldTypes
pub mod RunTypes
pub mod FullBuckets
