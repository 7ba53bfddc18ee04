pub mod ListOptions
pub mod PageFormats
pub mod Settings
