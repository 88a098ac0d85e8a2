pub mod Spread
pub mod Net
pub mod Starts
