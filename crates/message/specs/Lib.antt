-- Definitions of the crate `message`: the messages of the Rust for a line that it refuses, and the `Debug` text of a word.
pub mod Messages
pub mod Debug
