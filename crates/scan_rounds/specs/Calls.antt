-- What a scan may be asked for, and what a call has made of it.
use Rattle.std.specs.Prelude.{◌≡◌, ℕ, ◌+◌, ◌*◌, ◌<◌, ◌≤◌, List, [], length, Option}
use Rattle.std.specs.List.{All}
use Rattle.page_check.specs.declared.world.World.{Ghosts as WorldGhosts}
use Rattle.aio_disk.specs.Counts.{count_plus}
use Rattle.vis_map.specs.Bits.{Map}
use Rattle.aio_disk.specs.declared.disk.Disk.{Ghosts as DiskGhosts}
use Rattle.scan_jobs.specs.BlockFilter.{BlockFilter}
use Rattle.scan_jobs.specs.Jobs.{IsNewJob, count_unskipped, unread_job_count, unread_ending_count}
use Rattle.scan_rounds.specs.Progress.{IsClosedByFirst}
use Rattle.scan_rounds.specs.Rounds.{AllJobsListed, MapPagesConsumed, results_taken_count}
use Rattle.scan_rounds.specs.Scans.{IsOpenedAgain, IsSameScan, IsScan, scan_options}
use Rattle.scan_jobs.specs.declared.job.Ending.{Ending}
use Rattle.scan_jobs.specs.declared.job.Job.{Job}
use Rattle.scan_jobs.specs.declared.job_source.JobSource.{Ghosts as JobSourceGhosts}
use Rattle.scan_rounds.specs.declared.scan.Scan.{Scan}

module _ {W D : Type 0} (m : DiskGhosts D) (world : WorldGhosts W) where
  -- the first backend may read the pages of a map
  pub record ScanMayReadMap (relation : ℕ) (s : Scan W D) (map : Map) (warnings : List ℕ) : Type 0
    where
      pub scan : IsScan m world s
      pub relation_in : relation < world.relations
      pub none : (map.added ≡ []) × (warnings ≡ [])
      pub room : 65 ≤ s.room

  -- it has read them up to this ending
  pub record ScanReadMap (relation : ℕ) (s n : Scan W D) (was map : Map) (warnings : List ℕ)
      (end : Ending) : Type 0 where
    pub scan : IsScan m world n
    pub same : IsSameScan s n
    pub read : MapPagesConsumed (scan_options s) world.told s.backends.items n.backends.items
        relation
        was.pages
        map warnings end
    pub pages : map.pages ≡ was.pages
    pub room : s.room ≤ n.room + 65
    pub unread : n.unread ≡ count_plus (unread_ending_count end) s.unread
    pub results_bound : results_taken_count n.backends.items ≤ results_taken_count s.backends.items
        + was.pages

  -- a round may be made of these jobs, one for each of the first backends
  pub record ScanMayMakeRound (s : Scan W D) (jobs : List Job) : Type 0 where
    pub scan : IsScan m world s
    pub few : (1 ≤ length jobs) × (length jobs ≤ length s.backends.items)
    pub fresh : All (IsNewJob world.relations) jobs
    pub room : 64 ≤ s.room

  -- it was made, without the blocks that are left out
  pub record ScanMadeRound (block_filter : Option BlockFilter) (s n : Scan W D) (asked jobs : List
      Job)
      : Type 0 where
    pub scan : IsScan m world n
    pub same : IsSameScan s n
    pub reopened : IsOpenedAgain s.backends.items s.shared.queue n.shared.queue
    pub closed : IsClosedByFirst n.shared.queue n.backends.items
    pub listed : AllJobsListed block_filter (scan_options s)
        world.told s.backends.items n.backends.items asked jobs
    pub room : s.room ≤ n.room + 64
    pub unread : n.unread ≡ count_plus (unread_job_count jobs) s.unread
    pub results_bound : results_taken_count n.backends.items ≤ results_taken_count s.backends.items
        + count_unskipped block_filter asked

  -- a run of a job source may be made, without these blocks
  pub record ScanMayRunSource {A : Type 0} (a : JobSourceGhosts A W) (without : Option BlockFilter)
      (s : Scan W D) (job_source : A) : Type 0 where
    pub scan : IsScan m world s
    pub room : 64 * a.blocks_left job_source ≤ s.room
    pub options_are : a.options job_source ≡ scan_options s
    pub filter_is : a.block_filter job_source ≡ without

  -- it was made, and the job source is over
  pub record ScanRanSource {A : Type 0} (a : JobSourceGhosts A W) (s n : Scan W D)
      (job_source end : A) : Type 0 where
    pub scan : IsScan m world n
    pub same : IsSameScan s n
    pub reopened : IsOpenedAgain s.backends.items s.shared.queue n.shared.queue
    pub closed : IsClosedByFirst n.shared.queue n.backends.items
    pub source_follows : a.follows job_source end
    pub over : a.is_over end
    pub options_are : a.options end ≡ a.options job_source
    pub filter_is : a.block_filter end ≡ a.block_filter job_source
    pub room : s.room + 64 * a.blocks_left end ≤ n.room + 64 * a.blocks_left job_source
    pub more : ℕ
    pub unread_raised : n.unread ≡ count_plus more s.unread
    pub unread_enough : a.unread end ≤ a.unread job_source + more
    pub results_bound : results_taken_count n.backends.items + a.unskipped_left end
        ≤ results_taken_count s.backends.items + a.unskipped_left job_source
