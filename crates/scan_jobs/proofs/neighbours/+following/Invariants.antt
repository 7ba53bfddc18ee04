use Rattle.std.proofs.Common.{length}
use Rattle.scan_jobs.proofs.neighbours.+following.Given as goal

abbrev pub decreases-following : goal.decreases-following
decreases-following l = length l.jobs.now
