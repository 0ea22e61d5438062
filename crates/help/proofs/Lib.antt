-- The laws of the crate `help` that belong to no one function, and that later crates cite.
pub mod SpacedWords
pub mod NodeHelp
pub mod TextBounds
pub mod TextExamples
pub mod Following
pub mod Answers
pub mod OtherCommands
pub mod ReplyBounds
pub mod Examples
