pub mod Few
pub mod Registers
pub mod Naming
pub mod Body
pub mod Calls
pub mod Descriptors
pub mod Access
