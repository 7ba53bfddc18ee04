-- The backends of a scan between two rounds, and what some rounds have made of them.
use Rattle.std.specs.Prelude.{◌≡◌, ℕ, ◌+◌, ◌≤◌, List, [], ◌∷◌, ◌++◌, length, map, Option}
use Rattle.std.specs.Prelude.{IfSome, slice_index_or}
use Rattle.std.specs.List.{All, AllZip}
use Rattle.page_check.specs.declared.world.World.{Ghosts as WorldGhosts}
use Rattle.aio_disk.specs.Counts.{count_plus}
use Rattle.aio_handle.specs.ContractViews.{TableView}
use Rattle.method_worker.specs.QueueViews.{QueueView, SeatView}
use Rattle.aio_disk.specs.declared.disk.Disk.{Ghosts as DiskGhosts}
use Rattle.scan_jobs.specs.BlockFilter.{BlockFilter}
use Rattle.scan_rounds.specs.DiskActors.{DiskActorAdvanced, IsBackend}
use Rattle.scan_jobs.specs.Jobs.{IsNewJob, count_unskipped, unread_job_count}
use Rattle.scan_settings.specs.ListOptions.{ListOptions}
use Rattle.scan_rounds.specs.Rounds.{AllHaveOptions, AllJobsListed, IsLeastRoom, backend_disk_actor}
use Rattle.scan_rounds.specs.Rounds.{failed_results_taken, results_taken_count}
use Rattle.scan_rounds.specs.declared.backend.Backend.{Backend}
use Rattle.scan_jobs.specs.declared.job.Job.{Job}
use Rattle.scan_rounds.specs.declared.counts.Counts.{Counts}

-- the seat has closed the queue, last under the number of its reopenings
abbrev pub HasClosed : QueueView → SeatView → Type 0
HasClosed q s = (before : List ℕ) × (s.closes ≡ before ++ q.reopened ∷ [])

-- so has the first of these backends, where it has a seat
pub record IsClosedByFirst {W D : Type 0} (q : QueueView) (bs : List (Backend W D)) : Type 0 where
  pub seat : (b : Backend W D) → IfSome (slice_index_or bs 0 b).seat (HasClosed q)

module _ {W D : Type 0} (m : DiskGhosts D) (world : WorldGhosts W)
    (t : TableView) where
  -- the backends wait for a round, and this is what was counted so far
  pub record BackendsAreReady (q : QueueView) (bs : List (Backend W D)) (counts : Counts) : Type 0
    where
      pub some : 1 ≤ length bs
      pub backends : All (IsBackend m world t q) bs
      pub room : IsLeastRoom bs counts.room
      -- each job that ended in Unread has left the result of a failed I/O
      pub few_unread : counts.unread ≤ failed_results_taken bs

  -- a round of these jobs may be made, in which each backend lists one at most
  pub record BackendsMayMakeRound (q : QueueView) (bs : List (Backend W D)) (js : List Job)
      (counts : Counts) : Type 0 where
    pub ready : BackendsAreReady q bs counts
    pub fit : length js ≤ length bs
    pub fresh : All (IsNewJob world.relations) js
    pub room : 64 ≤ counts.room

  -- it was made, without the blocks that are left out
  pub record BackendsMadeRound (q : QueueView) (block_filter : Option BlockFilter)
      (bs cs : List (Backend W D)) (js ks : List Job) (before after : Counts) : Type 0 where
    pub ready : BackendsAreReady q cs after
    pub actors_advanced : AllZip (DiskActorAdvanced m world t)
        (map backend_disk_actor bs) (map backend_disk_actor cs)
    pub all_have_options : (how : ListOptions) → AllHaveOptions how bs → AllHaveOptions how cs
    pub by_place : (how : ListOptions) → AllHaveOptions how bs
        → AllJobsListed block_filter how world.told bs cs js ks
    pub room : before.room ≤ after.room + 64
    pub unread : after.unread ≡ count_plus (unread_job_count ks) before.unread
    pub results_bound : results_taken_count cs ≤ results_taken_count bs + count_unskipped block_filter js
