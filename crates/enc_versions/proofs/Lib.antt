pub mod Lines
pub mod Begun
pub mod Committed
pub mod AfterCommit
pub mod Known
pub mod Stopped
