-- Definitions of the crate `parse`: the command that words name and what becomes of its arguments, and what the call answers and leaves; and in
-- Inner, which only contracts of inner calls cite, how the code holds it.
pub mod Commands
pub mod Answer
pub mod Inner
