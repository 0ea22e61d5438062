-- Definitions of the crate `rows`: one row of a list, the rows of a list of frames, and the steps by which the code goes.
pub mod Rows
pub mod Inner
