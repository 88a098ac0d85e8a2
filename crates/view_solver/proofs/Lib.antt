pub mod Lifecycles
pub mod Relations
pub mod Callbacks
pub mod Moves
pub mod Closed
pub mod Rounds
pub mod Judged
pub mod Reported
