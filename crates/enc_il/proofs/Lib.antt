pub mod BodiesShort
pub mod BodiesWritten
pub mod ClausesWritten
pub mod Joined
pub mod Numbers
pub mod Sections
pub mod SectionsWritten
pub mod Starts
pub mod Walks
mod Goods
