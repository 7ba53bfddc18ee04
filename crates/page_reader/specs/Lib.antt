pub mod PagesTaken
pub mod Settings
pub mod Readers
