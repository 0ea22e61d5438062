-- Definitions of the crate `stream`: from bytes in to bytes out, the steps by which that is done, and how the code holds where it stands.
pub mod Bytes
pub mod Moves
pub mod Held
pub mod Inner
