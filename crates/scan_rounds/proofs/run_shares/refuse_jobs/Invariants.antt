use Rattle.std.proofs.Common.{◌≡◌, ◌≤◌, length}
use Rattle.scan_rounds.proofs.run_shares.refuse_jobs.Given as goal

abbrev pub invariant-loop-jobs : goal.invariant-loop-jobs
invariant-loop-jobs g l = record {
  one : length l.jobs ≡ 1;
  left : g.A.JobSource.blocks_left l.job_source ≤ g.A.JobSource.blocks_left l.fn.job_source;
  unskipped : g.A.JobSource.unskipped_left l.job_source
      ≤ g.A.JobSource.unskipped_left l.fn.job_source;
  unread : g.A.JobSource.unread l.job_source ≤ g.A.JobSource.unread l.fn.job_source;
  filter_same : g.A.JobSource.block_filter l.job_source
      ≡ g.A.JobSource.block_filter l.fn.job_source;
  options_same : g.A.JobSource.options l.job_source ≡ g.A.JobSource.options l.fn.job_source;
  source_follows : g.A.JobSource.follows l.fn.job_source l.job_source;
}

abbrev pub decreases-loop-jobs : goal.decreases-loop-jobs
decreases-loop-jobs g l = g.A.JobSource.blocks_left l.job_source
