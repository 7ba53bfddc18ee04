use Rattle.std.proofs.Common.{◌≡◌, take}
use Rattle.aio_disk.specs.Counts.{count_plus}
use Rattle.scan_jobs.specs.Jobs.{unread_job_count}
use Rattle.scan_rounds.proofs.counts.count_unread.Given as goal

abbrev pub invariant-loop-job : goal.invariant-loop-job
invariant-loop-job l = l.count ≡ count_plus (unread_job_count (take l.job-index l.jobs))
    l.initial.count
