pub mod Depth
pub mod Kept
pub mod Edges
