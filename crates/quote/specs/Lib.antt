-- Definitions of the crate `quote`: which words are good, how a word is shown, how words are joined, what `quote` answers and leaves,
-- and the steps by which the code goes.
pub mod Given
pub mod Shown
pub mod Joined
pub mod Answer
pub mod Inner
