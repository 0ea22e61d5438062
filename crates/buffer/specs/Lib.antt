-- Definitions of the crate `buffer`: what a write leaves in a lent buffer, what a writer that also measures leaves, what showing a text answers, texts in ASCII, the order of byte strings, the greatest byte, numbers in bytes.
pub mod Write
pub mod Compare
pub mod Greatest
pub mod Lend
pub mod Ascii
pub mod Inks
pub mod Showing
pub mod Numbers
