pub mod Graphs
pub mod Tables
pub mod Breaks
pub mod Owners
pub mod Rules
pub mod Instances
