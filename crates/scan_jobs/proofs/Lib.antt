pub mod UnitEntries
pub mod UnskippedCount
pub mod SourceEntries
pub mod Sums
pub mod ConsumerProgress
mod JoinedLists
mod StreamsOfJobs
mod AnswersSplit
pub mod OutputOfPages
mod JobsTakePages
pub mod JobsListed
pub mod JobsRefused
pub mod PagesOfMaps
