-- Blocks of one relation, without those that are left out.
use Rattle.std.proofs.Common.{◌≡◌, ℕ, List}
use Rattle.std.specs.Prelude.{Option, Some, None}
use Rattle.std.proofs.lemmas.List.Elements.{All-filter}
use Rattle.scan_jobs.specs.Jobs.{entries_of_job}
use Rattle.scan_jobs.specs.BlockFilter.{BlockFilter, is_unskipped, unskipped_entries}
use Rattle.scan_jobs.specs.declared.job.Job.{Job}
use Rattle.request_list.specs.RequestList.{Request, block_range}
use Rattle.request_list.proofs.BlocksOfOneRelation.{AreOf, range_of}

pub unskipped_of_relation : (r : ℕ) (skips : Option BlockFilter) (es : List Request) → AreOf r es
    → AreOf r (unskipped_entries skips es)
unskipped_of_relation r None es all = all
unskipped_of_relation r (Some s) es all =
    All-filter (λ e. is_unskipped (Some s) e.block) (λ (e : Request). e.relation ≡ r) es all

-- those of a job
pub job_entries_of_relation : (skips : Option BlockFilter) (j : Job)
    → AreOf j.relation (entries_of_job skips j)
job_entries_of_relation skips j =
    unskipped_of_relation j.relation skips (block_range j.relation j.first j.count)
    (range_of j.relation j.first j.count)
