-- The laws of the crate `image` that belong to no one function, and that later crates cite.
pub mod Heads
pub mod Fields
pub mod Blocks
pub mod HeadBytes
pub mod Encoding
pub mod Examples
