-- Definitions of the crate `reader`: the places between frames.
pub mod Places
