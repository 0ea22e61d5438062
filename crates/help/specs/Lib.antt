-- Definitions of the crate `help`: the two texts of the Rust, over the frames of a subtree and of a whole image, where the words of a line lead in a tree, and what `help` answers and leaves; and what only inner functions cite.
pub mod Texts
pub mod Paths
pub mod Answer
pub mod Inner
