pub mod Numbered
pub mod Pending
pub mod SimRing
pub mod ClaimedIos
pub mod Group
pub mod ClaimAttempts
pub mod RingRunner
