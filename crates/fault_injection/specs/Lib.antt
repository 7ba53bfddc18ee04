pub mod Script
pub mod Scripted
pub mod MemSink
