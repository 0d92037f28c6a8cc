pub mod Watched
pub mod Laws
pub mod Audience
pub mod Telling
