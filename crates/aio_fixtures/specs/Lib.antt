pub mod Lives
pub mod Actors
