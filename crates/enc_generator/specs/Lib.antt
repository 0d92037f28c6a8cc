pub mod Generated
pub mod Drawn
pub mod Laws
