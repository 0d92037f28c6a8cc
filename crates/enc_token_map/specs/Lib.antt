pub mod Body
pub mod Copied
pub mod Held
pub mod Laws
