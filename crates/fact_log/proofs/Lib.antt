pub mod Citing
pub mod Closed
pub mod Growing
pub mod Pushing
pub mod Ranges
pub mod Searched
