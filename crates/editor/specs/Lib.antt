-- Definitions of the crate `editor`: the line, what an action does, what `key` answers and leaves, the bytes that are saved of an
-- editor; in Inner what only contracts of inner functions cite.
pub mod Line
pub mod Turns
pub mod Answer
pub mod Saved
pub mod Inner
