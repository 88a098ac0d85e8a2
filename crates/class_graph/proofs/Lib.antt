pub mod Lines
pub mod Rows
pub mod Lists
pub mod Meets
pub mod Beside
pub mod Climbs
pub mod Tells
