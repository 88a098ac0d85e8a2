pub mod Listed
pub mod Settled
