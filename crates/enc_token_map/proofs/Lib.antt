mod ClausesMoved
mod CodeBytes
mod CodeMoved
pub mod Kept
mod Means
mod OwnBytes
mod SectionsMoved
