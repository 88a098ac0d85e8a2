pub mod Answers
pub mod Graph
pub mod Belongs
pub mod Walks
pub mod Built
