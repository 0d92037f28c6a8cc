pub mod Shift
pub mod Kept
pub mod Codes
pub mod TableNames
pub mod ChildTables
