pub mod Faults
pub mod Steps
pub mod Sums
pub mod Texts
pub mod Leb
