-- Definitions of the crate `state`: a session's state as 266 bytes, and what each call on such a state answers and leaves.
pub mod State
pub mod Calls
