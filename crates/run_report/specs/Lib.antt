pub mod Outcomes
pub mod Output
pub mod Run
pub mod Causes
pub mod ErrorLine
pub mod Lengths
pub mod Sums
pub mod Totals
