pub mod Sought
pub mod Told
pub mod Lifecycles
pub mod Carries
pub mod Fits
