pub mod Rests
pub mod Names
pub mod Five
pub mod Good
pub mod Read
pub mod Little
