pub mod Stands
pub mod Writing
pub mod RowsWriting
pub mod BodiesWriting
pub mod PdbFollows
pub mod MapWriting
pub mod LogWriting
pub mod Files
