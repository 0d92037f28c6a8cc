mod CodeLent
-- The lemmas of this crate.
pub mod RefusalNumbers
pub mod Items
pub mod Boxes
pub mod Handles
pub mod TokensFit
pub mod ClauseLists
pub mod Kept
pub mod ReasonNumbers
pub mod MovesFew
pub mod Ordinary
pub mod MergedLast
pub mod SessionHandles
pub mod SessionCalled
