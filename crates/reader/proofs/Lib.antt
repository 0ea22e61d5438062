-- The laws of the crate `reader` that belong to no one function, and its worked examples.
pub mod Steps
pub mod Answers
pub mod Examples
