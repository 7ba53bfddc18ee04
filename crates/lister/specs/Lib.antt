pub mod ListerState
pub mod ListerLaws
