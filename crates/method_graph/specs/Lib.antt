pub mod Exact
pub mod Flow
pub mod Graph
pub mod Operands
pub mod Registers
pub mod Sweep
pub mod Tries
