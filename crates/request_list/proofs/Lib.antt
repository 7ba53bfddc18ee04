pub mod DistinctNames
pub mod PartsOfRequests
pub mod BlocksOfOneRelation
pub mod MapPageCount
pub mod FileRequestsAppend
pub mod CommandExamples
pub mod RemainingRequestsStep
