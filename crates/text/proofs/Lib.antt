-- The laws of the crate `text`: each speaks of a definition, and belongs to no one function.
pub mod TableRows
pub mod Encoding
pub mod Pieces
pub mod Prefix
pub mod WhiteRuns
pub mod Splits
mod Examples
pub mod Spaces
pub mod Letters
pub mod Windows
pub mod Judging
