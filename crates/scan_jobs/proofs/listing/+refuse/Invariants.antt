use Rattle.std.proofs.Common.{length}
use Rattle.scan_jobs.proofs.listing.+refuse.Given as goal

abbrev pub decreases-refuse : goal.decreases-refuse
decreases-refuse l = length l.jobs.now
