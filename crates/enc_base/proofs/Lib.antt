pub mod First
pub mod Passed
mod Signed
pub mod SmallNumbers
