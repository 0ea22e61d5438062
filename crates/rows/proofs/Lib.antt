-- The laws of the crate `rows` that belong to no one function, and that later crates cite.
pub mod OneRow
pub mod Lists
pub mod Bounds
