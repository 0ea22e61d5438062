-- Definitions of the crate `arguments`: what keys and shorts mean to a node, and the fold over the argument words; and in Inner, which only contracts
-- of inner calls cite, how the code holds its state and what each of its moves comes to.
pub mod Meanings
pub mod Forms
pub mod Arguments
pub mod Inner
