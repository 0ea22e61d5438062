-- Definitions of the crate `frame`: texts after their length, frames of one text and many of them, hexadecimal, and house lines.
pub mod Limits
pub mod Text
pub mod Framed
pub mod Series
pub mod Hex
pub mod House
