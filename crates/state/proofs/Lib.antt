-- The laws of the crate `state` that belong to no one function.
pub mod Savings
pub mod Stored
pub mod Answering
pub mod Lasting
pub mod ByValue
pub mod Beginnings
pub mod Examples
