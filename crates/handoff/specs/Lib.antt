pub mod SlotRule
pub mod SlotSteps
pub mod HandoffViews
