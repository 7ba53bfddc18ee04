pub mod Heard
pub mod StagedTokens
pub mod NextSubmission
