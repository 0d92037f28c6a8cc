pub mod Base
pub mod Seen
pub mod Laws
pub mod Begun
pub mod Known
