-- Definitions of the crate `report`: the frames of a parsed command and of a fault; in Pairs, that frames of pairs are short; and in Inner, which only contracts of
-- inner calls cite, what writing them answers and leaves.
pub mod Report
pub mod Pairs
pub mod Inner
