-- The laws of the crate `buffer` that belong to no one function, and that every later crate cites.
pub mod Lists
pub mod Choices
pub mod Lending
pub mod Writing
pub mod Ordering
pub mod Greatest
pub mod Zeros
pub mod Inking
pub mod Numbers
