pub mod Lookups
pub mod Paths
pub mod Views
pub mod Reports
pub mod Tests
