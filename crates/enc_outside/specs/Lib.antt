pub mod Outside
pub mod Beside
pub mod Memory
pub mod Log
