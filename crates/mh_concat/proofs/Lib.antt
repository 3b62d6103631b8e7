pub mod ConcatStands
