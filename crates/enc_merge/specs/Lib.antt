pub mod Points
pub mod Merges
pub mod Writing
