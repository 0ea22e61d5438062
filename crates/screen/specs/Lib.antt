-- Definitions of the crate `screen`: a number in decimal digits, and what a redraw of the line writes, answers and leaves.
pub mod Decimal
pub mod Redraw
