pub mod AcceptedGoes
pub mod Chains
