pub mod Sums
pub mod Columns
pub mod Layout
pub mod Source
pub mod Runs
pub mod Fault
pub mod Owners
pub mod Written
