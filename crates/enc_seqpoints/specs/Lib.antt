pub mod Grammar
pub mod Spelling
pub mod Reads
pub mod Laws
pub mod Example
