pub mod HeaderFaults
pub mod Places
pub mod TupleFaults
pub mod ItemFaults
pub mod Misplaced
pub mod Faults
pub mod GoodItems
pub mod FaultsText
