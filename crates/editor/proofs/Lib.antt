-- The laws of the crate `editor` that belong to no one function.
pub mod Lines
pub mod Showings
pub mod States
pub mod Turns
pub mod Enters
pub mod KeyTurns
pub mod Keeping
pub mod Pressings
pub mod Always
pub mod Sequences
pub mod Fine
pub mod Called
pub mod Begun
pub mod Saved
pub mod Lasting
