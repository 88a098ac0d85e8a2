pub mod Answers
pub mod Below
pub mod Laws
pub mod Looking
pub mod Made
pub mod Numbered
pub mod Signatures
pub mod Sources
