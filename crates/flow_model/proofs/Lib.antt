pub mod Laws
pub mod Lists
pub mod MaskLaws
pub mod Slots
pub mod TestLaws
