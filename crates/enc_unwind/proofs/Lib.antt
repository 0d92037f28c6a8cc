pub mod Found
pub mod Counted
pub mod Climbed
pub mod Firsts
pub mod Bases
pub mod Example
pub mod Handled
