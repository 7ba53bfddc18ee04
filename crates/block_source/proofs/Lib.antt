pub mod FilteredBlocks
pub mod StridedBlocks
