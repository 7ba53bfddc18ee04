use Rattle.std.proofs.Common.{length}
use Rattle.scan_jobs.proofs.listing.+show_in.Given as goal

abbrev pub decreases-show_in : goal.decreases-show_in
decreases-show_in l = length l.jobs.now
