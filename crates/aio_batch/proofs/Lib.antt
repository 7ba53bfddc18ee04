pub mod StagedTokensKept
pub mod NextSubmission
pub mod HeardInOrder
pub mod OwnClaimsKnown
