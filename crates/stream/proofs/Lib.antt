-- The laws of the crate `stream` that belong to no one function.
pub mod Holdings
pub mod Making
pub mod Standings
pub mod Pressings
pub mod Takings
pub mod Reaches
pub mod Steppings
pub mod Whole
