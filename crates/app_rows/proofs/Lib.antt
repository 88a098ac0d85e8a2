pub mod Distinct
pub mod Moved
pub mod Sizes
pub mod Once
pub mod Ranges
pub mod Spelling
pub mod Fitting
pub mod SeenLengths
