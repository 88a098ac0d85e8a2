pub mod TagLaws
mod Examples
pub mod Lengths
