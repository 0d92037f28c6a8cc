pub mod Thrown
pub mod Search
pub mod Walk
pub mod Laws
pub mod Example
