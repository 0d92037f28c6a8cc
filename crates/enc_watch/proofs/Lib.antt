pub mod Placed
pub mod Counted
pub mod Hearings
pub mod Taken
pub mod Hearing
pub mod Eventful
