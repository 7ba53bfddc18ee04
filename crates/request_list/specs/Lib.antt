pub mod RequestList
pub mod RemainingRequests
