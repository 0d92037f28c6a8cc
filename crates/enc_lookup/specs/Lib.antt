pub mod Types
pub mod Members
