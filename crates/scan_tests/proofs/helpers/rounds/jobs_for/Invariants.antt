use Rattle.std.proofs.Common.{◌≡◌, length}
use Rattle.std.specs.List.{All}
use Rattle.scan_jobs.specs.Jobs.{IsNewJob}
use Rattle.scan_tests.proofs.helpers.rounds.jobs_for.Given as goal

abbrev pub invariant-loop-blocks : goal.invariant-loop-blocks
invariant-loop-blocks l = All (IsNewJob 1) l.jobs.items × (length l.jobs.items ≡ l.blocks-index)
