-- Definitions of the program `console`: what its words choose, and what a turn of its loop leaves. Reading and writing themselves have no definition here.
pub mod Settings
pub mod Turns
