pub mod Alike
pub mod ClassData
pub mod CodeItem
pub mod Content
pub mod HandlerPart
pub mod Order
pub mod Reading
