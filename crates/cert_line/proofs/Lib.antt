pub mod Pieces
pub mod MaskSteps
pub mod Choices
pub mod Numbers
pub mod Hex
pub mod Statuses
pub mod Spaces
pub mod Lines
