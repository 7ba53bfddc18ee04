pub mod Words
pub mod Events
pub mod Stands
pub mod StandsByRank
pub mod Tokens
pub mod Totals
