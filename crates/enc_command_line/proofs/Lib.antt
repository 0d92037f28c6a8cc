pub mod Listed
pub mod Sums
pub mod Spaced
pub mod Numerals
