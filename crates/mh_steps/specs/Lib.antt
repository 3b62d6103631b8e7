pub mod AnyTypes
pub mod SomeCases
