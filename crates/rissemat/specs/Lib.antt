-- Definitions of the crate `rissemat`: an answer as one number, what each call gives back, and what only inner contracts cite.
pub mod Packed
pub mod Calls
pub mod Inner
