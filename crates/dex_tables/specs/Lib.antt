pub mod Content
pub mod Reading
pub mod Rows
pub mod Sound
