pub mod Key
pub mod Tree
pub mod Index
