pub mod Zeros
pub mod ValidPages
pub mod VerifiedPages
pub mod SynchronousReads
pub mod ListPlaces
pub mod NextAnswer
pub mod AnswersInOrder
pub mod AnswersOfLists
pub mod AnswersOfBlocks
pub mod Segments
pub mod WorkedPages
mod PageRow
