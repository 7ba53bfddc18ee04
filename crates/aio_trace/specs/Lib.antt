pub mod TotalsText
pub mod Replay
