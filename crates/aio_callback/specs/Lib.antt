pub mod ReadIoView
pub mod Finishes
pub mod StreamOutcomes
pub mod RecordInvariant
pub mod Row
