-- The laws of the crate `rust`: within the rules of states, in the Rust's profile of keys, and on well-formed trees, our definitions are the Rust's functions.
pub mod Words
pub mod Trees
pub mod Supplied
pub mod Maps
pub mod Meanings
pub mod Arguments
pub mod Parsing
pub mod Plain
pub mod Lines
pub mod Listings
pub mod Helping
pub mod Escapes
pub mod Asked
pub mod Executing
pub mod Running
pub mod Calls
pub mod Histories
pub mod Keys
pub mod Sessions
pub mod Whole
mod Examples
