pub mod LinkFaults
pub mod Linking
pub mod Cycles
