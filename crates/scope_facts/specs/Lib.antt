pub mod Bits
pub mod Cases
pub mod Fields
pub mod LockCode
pub mod Texts
