pub mod GoodPages
pub mod Chain
pub mod Finishes
pub mod CallbackCounts
