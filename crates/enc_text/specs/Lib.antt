pub mod Text
pub mod BodyText
pub mod RowText
pub mod PointText
