mod SlotRuleLemmas
pub mod ClientStepsKeepRule
pub mod ServerStepsKeepRule
pub mod SeatsKnowState
