pub mod Turns
pub mod Visits
pub mod Places
pub mod Closed
