pub mod Order
pub mod Cells
pub mod Entering
pub mod Sites
pub mod Changes
pub mod Runs
