pub mod Records
pub mod Writing
pub mod Numbers
pub mod Somes
pub mod Back
pub mod Blobs
pub mod Readable
pub mod Written
pub mod Named
pub mod Examples
pub mod PointsSized
pub mod PointsSpelled
mod Rising
