-- Definitions of the crate `text`: Unicode's scalar values and UTF-8, the decoder, White_Space, and a text taken apart at white space.
pub mod Unicode
pub mod Decoding
pub mod Space
pub mod Apart
pub mod Inner
