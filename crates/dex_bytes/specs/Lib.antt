pub mod Checksum
pub mod Header
pub mod Leb128
pub mod Mutf8
pub mod Numbers
pub mod Places
