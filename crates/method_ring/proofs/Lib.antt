pub mod NumberedLookup
mod NumberedSearch
mod GroupHoldsPending
mod GroupClaims
mod ClaimAttempts
mod PoppedReferences
mod CompletionEndsIo
mod GroupMarks
mod GroupCompletion
