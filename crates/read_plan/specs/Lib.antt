pub mod PlanInvariant
pub mod OfferAnswer
pub mod Plans
pub mod Runs
