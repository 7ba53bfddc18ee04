pub mod Lives
pub mod UnreclaimedIos
mod ActorLists
mod ClaimOutcomes
