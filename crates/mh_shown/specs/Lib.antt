pub mod KeyText
pub mod NameText
