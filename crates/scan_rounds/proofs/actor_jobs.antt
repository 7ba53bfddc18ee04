-- What becomes of the jobs that an actor lists.
pub mod ActorsListJobs
pub mod UnreadLeavesResult
pub mod JobsByPlace
pub mod JobsInSequence
