-- The laws of the crate `report` that belong to no one function, and its worked examples.
pub mod Ahead
pub mod Words
pub mod Tables
pub mod Reports
pub mod Faults
pub mod Answers
mod Examples
