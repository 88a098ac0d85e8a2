pub mod Content
pub mod Exact
pub mod Reading
pub mod Sizes
pub mod Sound
