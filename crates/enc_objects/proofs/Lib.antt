pub mod Overflow
pub mod Storing
pub mod KindsOfNumbers
pub mod Placed
pub mod Names
pub mod Changing
