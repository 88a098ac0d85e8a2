pub mod Parts
pub mod Texts
pub mod Reading
pub mod Wrong
