-- The laws of the crate `words` that belong to no one function.
pub mod OpenWords
pub mod Runs
pub mod Standing
pub mod Laying
pub mod Answers
pub mod GoodWords
