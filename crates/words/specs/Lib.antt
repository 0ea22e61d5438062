-- Definitions of the crate `words`: the words of a line, what `tokenize` answers and leaves, and the steps by which the code goes.
pub mod Tokens
pub mod Answer
pub mod Inner
pub mod Ordinary
