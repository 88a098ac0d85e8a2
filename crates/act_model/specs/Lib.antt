pub mod Acts
pub mod Tags
pub mod Changes
pub mod Entries
