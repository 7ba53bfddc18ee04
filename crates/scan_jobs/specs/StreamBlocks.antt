-- The blocks that a stream is to give, and the jobs that ask for them.
use Rattle.std.specs.Prelude.{◌≡◌, ℕ, ◌+◌, ◌*◌, ◌^◌, ◌≤◌, List, length, None, slice_index_or}
use Rattle.page_check.specs.SynchronousAnswer.{Entry}
use Rattle.scan_jobs.specs.BlockFilter.{unskipped_range, filter_of_skipping}
use Rattle.scan_jobs.specs.Jobs.{AreWholeButLast, entries_of_jobs}
use Rattle.scan_jobs.specs.declared.job.Job.{Job}
use Rattle.scan_jobs.specs.declared.source.Blocks.{Blocks}

-- the blocks that a stream is to give
abbrev pub entries_of_blocks : Blocks → List (Entry (Unit {0}))
entries_of_blocks b = unskipped_range (filter_of_skipping b.by_map) b.relation b.first b.count

-- the pages of a map: so many of a relation, from the first on
abbrev pub map_blocks : ℕ → ℕ → Blocks
map_blocks relation pages =
    record { relation = relation; first = 0; count = pages; by_map = None }

-- a stream of these blocks gives those that the jobs ask for, but for those that are left out
pub record IsStreamOfJobs (b : Blocks) (jobs : List Job) : Type 0 where
  pub some : 1 ≤ length jobs
  pub relation_is : (j : Job) → (slice_index_or jobs 0 j).relation ≡ b.relation
  pub entries : entries_of_blocks b ≡ entries_of_jobs (filter_of_skipping b.by_map) jobs
  pub whole : AreWholeButLast (filter_of_skipping b.by_map) jobs
  pub few : (b.count ≤ 64 * length jobs) × (b.count ≤ 4096)
  pub within : b.first + b.count ≤ 2 ^ 32
