-- Definitions of the crate `session`: what a session prints for a key and for a line, where it stands, how much a key prints at most, and what its
-- calls answer and leave.
pub mod Prints
pub mod Lines
pub mod Sizes
pub mod Calls
pub mod Held
pub mod Answer
pub mod Inner
