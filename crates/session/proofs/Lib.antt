-- Laws of the crate `session`.
pub mod Marks
pub mod Printings
pub mod Runs
pub mod Screens
pub mod Turns
pub mod Takings
pub mod Held
pub mod Followed
pub mod Examples
pub mod Sums
