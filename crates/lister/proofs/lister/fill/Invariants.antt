use Rattle.std.proofs.Common.{◌≡◌, ◌++◌, length, take, None}
use Rattle.std.specs.List.{All}
use Rattle.scan_jobs.specs.Jobs.{IsNewJob}
use Rattle.lister.specs.ListerState.{unskipped_job_parts}
use Rattle.lister.proofs.lister.fill.Given as goal

abbrev pub invariant-loop-place : goal.invariant-loop-place
invariant-loop-place g l = record {
  same : length l.jobs ≡ length l.fn.jobs;
  fresh : All (IsNewJob g.W.World.relations) (take l.place l.jobs);
  cut : l.fn.blocks ≡ unskipped_job_parts None (take l.place l.jobs) ++ l.blocks;
}
