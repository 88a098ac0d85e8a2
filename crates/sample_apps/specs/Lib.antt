pub mod Altered
