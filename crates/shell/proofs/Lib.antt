-- The laws of the crate `shell` that belong to no one function.
pub mod WrittenAnswers
pub mod Faults
pub mod Handlers
pub mod JudgedCarried
pub mod Lines
pub mod BareHelp
pub mod Answers
pub mod Bounds
pub mod Numbers
mod Examples
