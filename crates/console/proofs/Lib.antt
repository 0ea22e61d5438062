-- The laws of the program `console` that belong to no one function.
pub mod Turning
pub mod Words
