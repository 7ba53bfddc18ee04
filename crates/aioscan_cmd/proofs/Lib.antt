pub mod LengthsAppend
mod MapPagesThenBlocks
mod MapCommandOutput
pub mod DiskCountsAdd
pub mod ScanCountsAtEnd
