pub mod WiderAnswers
mod StreamCalls
mod LeastRoom
mod ListPairs
mod ActorsAdvance
mod QueueClosed
mod ScanAfterRounds
mod WorkersServe
mod ScanAfterMap
pub mod ReadMaps
mod BackendsRun
mod ScanAfterRun
mod assembly
mod share_laws
mod totals
mod actor_jobs
