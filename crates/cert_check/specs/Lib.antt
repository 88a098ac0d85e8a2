pub mod Broken
pub mod Verdict
pub mod Tests
pub mod EdgeTests
pub mod Firsts
pub mod Ends
pub mod Digests
