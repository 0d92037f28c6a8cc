pub mod Coding
pub mod Schema
pub mod Names
pub mod Widths
pub mod Laws
pub mod Children
pub mod Columns
