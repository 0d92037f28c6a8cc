pub mod Sorted
pub mod Depth
pub mod Orders
pub mod Keyed
pub mod Places
pub mod Walks
pub mod Stages
