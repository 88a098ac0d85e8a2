pub mod Listed
pub mod Keys
pub mod Reading
pub mod Binding
