-- The promises, each in a file to be read from top to bottom: demand 1 (Answers, Reports, KeyAnswers, HouseAnswers, SessionAnswers, OneAnswer, Lasting), 2 (SameAsRust, with Std),
-- 3 (Subtrees, OtherCommands), the key profiles (KeyProfiles), the bytes in use (BytesInUse), where a history begins (FirstSlot), forgetting an entry (Forgetting), the same of the calls for Rust and C (Exported), and the marked examples.
pub mod Tables
pub mod Answers
pub mod Reports
pub mod KeyAnswers
pub mod HouseAnswers
pub mod SessionAnswers
pub mod OneAnswer
pub mod Lasting
pub mod KeyProfiles
pub mod BytesInUse
pub mod FirstSlot
pub mod Forgetting
pub mod Std
pub mod SameAsRust
pub mod Subtrees
pub mod OtherCommands
pub mod Exported
pub mod Marked
