pub mod Values
pub mod Instructions
pub mod Entries
pub mod Limits
pub mod Objects
pub mod Laws
pub mod Places
