-- The laws of the crate `trees`, which belong to no one function.
pub mod Good
