pub mod SeenDone
pub mod WaitKeepsInFlight
