-- Definitions of the crate `trees`: the two trees of the original's base commands, as frames.
pub mod Commands
