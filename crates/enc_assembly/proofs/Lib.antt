pub mod Codes
pub mod KeptUsers
pub mod Steps
pub mod Numbers
pub mod Distances
pub mod Args
pub mod Chained
