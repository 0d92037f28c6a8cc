pub mod Written
pub mod Lending
pub mod Little
