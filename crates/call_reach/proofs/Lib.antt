pub mod Adding
pub mod Assigned
pub mod Bits
pub mod Gathered
pub mod Reached
pub mod Turns
