pub mod MarkedBlocks
pub mod Counts
