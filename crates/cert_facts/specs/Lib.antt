pub mod Sets
pub mod Shape
pub mod Rows
pub mod Cases
pub mod Entries
pub mod Moves
