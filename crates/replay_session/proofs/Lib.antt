-- The laws of the crate `replay_session` that belong to no one function.
pub mod Turns
