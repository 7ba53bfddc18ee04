pub mod SinkTextsAppend
pub mod OutputsAppend
pub mod CutsInParts
pub mod ConcludedRuns
pub mod ConclusionCauses
pub mod RefusedRuns
pub mod ListedRuns
mod RunsOverTold
mod FileRunsOverTold
mod ExactOutcomes
pub mod TopClauses
mod GeneratedPageReads
pub mod GeneratedRuns
pub mod GeneratedScans
pub mod ErrorTextsAppend
