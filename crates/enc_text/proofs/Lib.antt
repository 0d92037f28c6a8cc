pub mod Guids
pub mod Joined
pub mod BodyLists
pub mod Pieces
pub mod PointLines
pub mod Digits
pub mod Characters
