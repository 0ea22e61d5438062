-- The laws of the crate `table` that belong to no one function, and its worked examples.
pub mod Maps
pub mod Room
pub mod Seeking
pub mod Shifting
pub mod TableMaps
pub mod PackedPlaces
pub mod Putting
mod Examples
