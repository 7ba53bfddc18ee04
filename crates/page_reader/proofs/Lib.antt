pub mod PagesInOrder
pub mod FailedReadCounts
pub mod UnreadBlocks
pub mod LivesLeft
pub mod NewBackend
pub mod ForCallers
