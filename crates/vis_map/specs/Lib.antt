pub mod Bits
pub mod MapRequest
