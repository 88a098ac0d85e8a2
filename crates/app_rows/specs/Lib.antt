pub mod Numbers
pub mod Linked
pub mod Small
