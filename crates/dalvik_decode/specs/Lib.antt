pub mod Table
pub mod Operands
pub mod Instructions
pub mod Decoding
pub mod Payloads
