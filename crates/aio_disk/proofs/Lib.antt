pub mod Logs
pub mod SourceCalls
pub mod FileNames
pub mod GivenPages
pub mod SegmentBySegment
pub mod OneSegmentCalled
