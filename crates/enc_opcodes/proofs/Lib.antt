mod Named
pub mod Chains
pub mod Instructions
pub mod Bodies
pub mod Example
pub mod Whole
pub mod Sounds
pub mod CodeBytes
mod Targets
