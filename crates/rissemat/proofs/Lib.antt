-- The laws of the crate `rissemat` that belong to no one function.
pub mod Answering
pub mod Unpacking
pub mod Packings
