pub mod Laws
pub mod Known
pub mod State
pub mod Turns
pub mod Goals
pub mod Answers
