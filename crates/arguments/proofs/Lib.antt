-- The laws of the crate `arguments` that belong to no one function.
pub mod Equals
pub mod Moves
pub mod Meanings
pub mod Steps
pub mod Walks
pub mod Room
pub mod FoundStays
