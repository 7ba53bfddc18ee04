-- How the parts of an opening become backends, workers and a scan.
pub mod PartsGiven
pub mod NewDiskActors
pub mod SeatsAndRings
pub mod AssembledScan
