pub mod UnmarkedLists
pub mod NeededPages
