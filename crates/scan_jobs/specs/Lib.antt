pub mod BlockFilter
pub mod Jobs
pub mod StreamBlocks
pub mod JobOutput
pub mod ConsumedPages
