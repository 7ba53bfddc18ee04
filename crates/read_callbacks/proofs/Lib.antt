pub mod BlocksOfPages
pub mod ChainLowersResult
pub mod ChainChangesPages
pub mod CheckedPages
pub mod ChecksByPlaces
pub mod BadPagesMarked
