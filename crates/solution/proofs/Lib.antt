pub mod Ors
pub mod Bits
pub mod Facts
pub mod Starts
pub mod Products
