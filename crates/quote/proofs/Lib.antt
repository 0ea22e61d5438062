-- The laws of the crate `quote` that belong to no one function.
pub mod Showing
pub mod Listing
pub mod Counting
pub mod Laying
pub mod Answers
pub mod GivenBack
