-- Definitions of the crate `lookup`: the first frame of a kind, the subtree of a node, and a node's definitions by key or short.
pub mod Spots
pub mod Searches
pub mod Nodes
pub mod Definitions
pub mod Subtrees
pub mod Inner
