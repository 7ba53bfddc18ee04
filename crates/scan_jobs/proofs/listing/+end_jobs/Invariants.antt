use Rattle.std.proofs.Common.{length}
use Rattle.scan_jobs.proofs.listing.+end_jobs.Given as goal

abbrev pub decreases-end_jobs : goal.decreases-end_jobs
decreases-end_jobs l = length l.jobs.now
