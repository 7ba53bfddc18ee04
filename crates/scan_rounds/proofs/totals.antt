-- The counts at the end of a scan, and those of its disks.
pub mod CountRaised
pub mod ResultsMatchExecutions
pub mod DisksCountForActors
pub mod TotalsMatchDisks
