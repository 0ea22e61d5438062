-- Definitions of the crate `image`: one frame of a tree image and its bytes, the limits of its fields, and how a frame is read.
pub mod Frames
pub mod Limits
pub mod Reading
pub mod Inner
