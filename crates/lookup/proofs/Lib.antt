-- The laws of the crate `lookup` that belong to no one function, and that later crates cite.
pub mod Looks
pub mod Seeks
pub mod Matches
pub mod Parts
pub mod Subtrees
pub mod FrameCounts
pub mod FoundFrames
pub mod Lookups
pub mod Examples
