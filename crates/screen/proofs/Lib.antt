-- The laws of the crate `screen` that belong to no one function, and its worked examples.
pub mod Numerals
pub mod Drawing
mod Examples
