pub mod Newest
pub mod Meant
pub mod Rules
pub mod Planned
pub mod StoredRules
