-- The laws of the crate `message` that belong to no one function, and that later crates cite.
pub mod MessageParts
pub mod Debugging
pub mod Bounds
pub mod Examples
