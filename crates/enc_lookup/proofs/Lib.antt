pub mod NameColumns
pub mod NoKids
pub mod Maps
