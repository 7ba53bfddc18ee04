pub mod GeneratedBytesAppend
pub mod GeneratedPagesValid
