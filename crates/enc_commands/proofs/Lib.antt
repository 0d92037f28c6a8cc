pub mod Saves
pub mod Served
pub mod Shown
pub mod Loading
pub mod KnownMethods
pub mod Applied
pub mod Ordinary
mod BaseHeaps
pub mod Drawn
pub mod Cases
pub mod Written
mod Named
mod Running
pub mod Merging
