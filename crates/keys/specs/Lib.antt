-- Definitions of the crate `keys`: which modes there are and their numbers, the bytes of a control sequence, what a key means; and control sequences as
-- ECMA-48 has them.
pub mod Modes
pub mod Control
pub mod Keys
pub mod Sequences
