pub mod UnskippedOfOneRelation
pub mod JobTextOutput
pub mod UnskippedBlocksAppend
pub mod JobSumsAdd
mod JobTextsAppend
pub mod ListerJobsCompose
