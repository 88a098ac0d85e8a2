pub mod Lines
pub mod Noting
pub mod Telling
pub mod Writing
