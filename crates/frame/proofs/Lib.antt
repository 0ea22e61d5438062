-- The laws of the crate `frame` that belong to no one function, and that later crates cite.
pub mod Texts
pub mod Frames
pub mod Series
pub mod Digits
pub mod Lines
pub mod Examples
