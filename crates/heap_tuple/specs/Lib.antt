pub mod Tuples
pub mod Chains
pub mod ChainLengths
pub mod TuplesText
