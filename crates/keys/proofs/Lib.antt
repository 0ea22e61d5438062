-- The laws of the crate `keys` that belong to no one function.
pub mod Ranges
pub mod Awaiting
pub mod Modes
pub mod Grammar
pub mod Reached
pub mod Examples
