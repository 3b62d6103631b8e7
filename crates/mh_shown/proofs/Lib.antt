pub mod Cuts
pub mod Letters
pub mod Pushed
pub mod KeyTexts
