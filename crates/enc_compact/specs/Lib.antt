pub mod Moved
pub mod Held
pub mod Mover
pub mod Seen
pub mod Laws
