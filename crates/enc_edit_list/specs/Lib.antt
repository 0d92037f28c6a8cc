pub mod Form
pub mod Sizes
pub mod Added
pub mod Reach
