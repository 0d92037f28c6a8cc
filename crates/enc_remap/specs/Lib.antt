pub mod Remap
pub mod Seen
pub mod Laws
pub mod Asked
