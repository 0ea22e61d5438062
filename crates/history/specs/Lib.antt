-- Definitions of the crate `history`: the entries and what adding does to them, where they lie in the lent buffer, a history as one value with what
-- holds it, what adding answers and leaves, forgetting one entry, the bytes that are saved of it, the steps through it; in Inner what only contracts of inner functions cite.
pub mod Entries
pub mod Slots
pub mod Journal
pub mod Answer
pub mod Forgotten
pub mod Saved
pub mod Steps
pub mod Inner
