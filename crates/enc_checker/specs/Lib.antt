pub mod Check
pub mod Seen
pub mod Within
pub mod Followed
