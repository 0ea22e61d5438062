-- Definitions of the crate `shell`: what a line is answered, and what `run` answers and leaves; and in Inner, which only contracts of inner calls
-- cite, what the code holds of a line.
pub mod Lines
pub mod Answer
pub mod Inner
