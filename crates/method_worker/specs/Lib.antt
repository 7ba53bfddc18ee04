pub mod QueueRule
pub mod ClosingWord
pub mod QueueViews
pub mod SeatCalls
pub mod Submission
pub mod WorkerSteps
