pub mod Words
pub mod Commands
pub mod Lines
pub mod Listing
pub mod Case
