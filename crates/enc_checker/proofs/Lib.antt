pub mod OwnMethods
pub mod KnownWithin
pub mod AcceptedFiles
