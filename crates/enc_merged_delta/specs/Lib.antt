pub mod Merged
pub mod Held
pub mod Laws
