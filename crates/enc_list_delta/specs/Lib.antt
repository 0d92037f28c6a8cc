pub mod Delta
pub mod Holds
pub mod Laws
