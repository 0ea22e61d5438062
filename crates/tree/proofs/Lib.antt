-- The laws of the crate `tree` that belong to no one function, and that later crates cite.
pub mod Walks
pub mod PassedFrames
pub mod Items
pub mod WellFormedImages
pub mod Trails
pub mod CommandNodes
pub mod Flattening
pub mod Planting
pub mod Forests
pub mod FirstBad
pub mod Examples
pub mod OneFrameMore
pub mod Grown
pub mod GrowthExamples
