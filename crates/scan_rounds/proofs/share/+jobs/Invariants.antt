use Rattle.std.proofs.Common.{length}
use Rattle.scan_rounds.proofs.share.+jobs.Given as goal

abbrev pub decreases-do_jobs : goal.decreases-do_jobs
decreases-do_jobs g l = length l.jobs.now
