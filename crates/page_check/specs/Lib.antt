pub mod PageBytes
pub mod Fields
pub mod Verdict
pub mod Checksum
pub mod LinePointers
pub mod Told
pub mod SynchronousAnswer
pub mod IsAnswer
