pub mod Stated
pub mod Written
pub mod Laws
pub mod Listed
pub mod Names
pub mod Holding
pub mod Methods
