pub mod Numbers
pub mod Order
pub mod Passed
pub mod Readers
pub mod Tables
pub mod Token
pub mod Units
