pub mod CombinedRuns
