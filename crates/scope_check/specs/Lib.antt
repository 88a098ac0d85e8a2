pub mod Answering
pub mod Causes
pub mod Founds
pub mod Passing
pub mod Surveys
pub mod Tests
