pub mod Words
pub mod Table
pub mod Facts
pub mod Starts
