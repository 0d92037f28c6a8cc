pub mod Version
pub mod StandFor
pub mod Commit
pub mod Laws
pub mod Shared
pub mod Stops
