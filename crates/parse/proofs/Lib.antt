-- The laws of the crate `parse` that belong to no one function.
pub mod Definitions
pub mod Judgements
pub mod OutcomesTold
pub mod Lines
pub mod Answers
pub mod Bounds
