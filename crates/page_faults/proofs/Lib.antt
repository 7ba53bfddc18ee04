pub mod PieceOwners
pub mod NamedBlocks
pub mod ItemLists
pub mod HexDigits
pub mod FaultLines
pub mod ItemsInOrder
pub mod FoundPlaces
pub mod FaultCounts
