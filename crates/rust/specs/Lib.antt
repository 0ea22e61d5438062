-- The Rust's own functions (docs/src/src/shell) on values, each beside the lines that it stands for, and what they take from std; our answers in their terms, and our calls.
pub mod Std
pub mod Tree
pub mod Base
pub mod Parser
pub mod Help
pub mod Shell
pub mod History
pub mod Loop
pub mod Same
pub mod Calls
pub mod Session
