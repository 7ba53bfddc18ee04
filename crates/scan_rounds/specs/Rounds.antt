-- What a round does to all backends, to all workers and to the jobs.
use Rattle.std.specs.Prelude.{◌≡◌, ℕ, ◌+◌, ◌<◌, ◌≤◌, List, ◌∷◌, length, slice_index_or, sum_by}
use Rattle.std.specs.Prelude.{Option}
use Rattle.std.specs.List.{All, AllZip}
use Rattle.page_check.specs.declared.world.World.{Ghosts as WorldGhosts}
use Rattle.page_check.specs.Told.{Told}
use Rattle.aio_handle.specs.ContractViews.{TableView}
use Rattle.heap_scan.specs.Job.{job_entries}
use Rattle.vis_map.specs.Bits.{Map}
use Rattle.method_worker.specs.QueueViews.{QueueView}
use Rattle.read_stream.specs.FailedReads.{MayBeUnread}
use Rattle.aio_word.specs.Tokens.{failed_result_count}
use Rattle.aio_disk.specs.declared.disk.Disk.{Ghosts as DiskGhosts}
use Rattle.scan_rounds.specs.DiskActors.{WorkerServed, BackendReadMap, ActorHasRoom}
use Rattle.scan_rounds.specs.DiskActors.{BackendAdvanced, IsBackend, backend_options}
use Rattle.read_stream.specs.ActorProgress.{local_mark_count}
use Rattle.scan_settings.specs.ListOptions.{ListOptions}
use Rattle.scan_jobs.specs.Jobs.{IsNewJob, JobIsListed, answered_ending, count_unskipped}
use Rattle.scan_jobs.specs.Jobs.{unread_job_count}
use Rattle.scan_jobs.specs.BlockFilter.{BlockFilter}
use Rattle.scan_jobs.specs.ConsumedPages.{MapHasPages, PagesConsumed}
use Rattle.scan_jobs.specs.declared.job.Ending.{Ending}
use Rattle.scan_rounds.specs.declared.disk_actor.DiskActor.{DiskActor}
use Rattle.scan_rounds.specs.declared.backend.Backend.{Backend}
use Rattle.scan_rounds.specs.declared.worker.Worker.{Worker}
use Rattle.scan_jobs.specs.declared.job.Job.{Job}

module _ {W D : Type 0} where
  abbrev pub backend_disk_actor : Backend W D → DiskActor W D
  backend_disk_actor b = b.disk_actor

  abbrev pub worker_disk_actor : Worker W D → DiskActor W D
  worker_disk_actor w = w.disk_actor

  -- each backend has room for so many lives more
  abbrev pub AllBackendsHaveRoom : ℕ → List (Backend W D) → Type 0
  AllBackendsHaveRoom least bs = All (λ (b : Backend W D). ActorHasRoom least b.disk_actor.actor) bs

  -- the most lives for which each backend has room
  pub record IsLeastRoom (bs : List (Backend W D)) (room : ℕ) : Type 0 where
    pub all_have_room : AllBackendsHaveRoom room bs
    pub greatest : (n : ℕ) → AllBackendsHaveRoom n bs → n ≤ room

  -- each backend lists with these options
  abbrev pub AllHaveOptions : ListOptions → List (Backend W D) → Type 0
  AllHaveOptions m bs = All (λ (b : Backend W D). backend_options b ≡ m) bs

  -- each job was listed without the blocks that are left out, by the backend at its place
  pub record AllJobsListed (block_filter : Option BlockFilter) (m : ListOptions) (told : Option
      Told)
      (bs cs : List (Backend W D)) (js ks : List Job) : Type 0 where
    pub jobs_are : length ks ≡ length js
    pub each : (i : ℕ) (d : Backend W D) (j : Job) → i < length js
        → JobIsListed block_filter m told (MayBeUnread (slice_index_or bs i d).disk_actor.actor
        (slice_index_or cs i d).disk_actor.actor.known) (slice_index_or js i j)
        (slice_index_or ks i j)

  -- the first backend has read so many pages of a map, up to this ending; it has those before it,
  -- and these are their warnings
  abbrev pub MapPagesConsumed : ListOptions → Option Told → List (Backend W D) → List (Backend W D)
      → ℕ → ℕ
      → Map → List ℕ → Ending → Type 0
  MapPagesConsumed m told bs cs relation pages map warnings end =
      (d : Backend W D) → PagesConsumed (MapHasPages map warnings) m.rules told
      (MayBeUnread (slice_index_or bs 0 d).disk_actor.actor
      (slice_index_or cs 0 d).disk_actor.actor.known) (job_entries relation 0 pages)
      (answered_ending end)

  -- how many results of failed I/Os the backends have taken
  abbrev pub failed_results_taken : List (Backend W D) → ℕ
  failed_results_taken bs = sum_by (λ (b : Backend W D). failed_result_count
      b.disk_actor.actor.known.marks) bs

  -- how many results of I/Os the backends have taken
  abbrev pub results_taken_count : List (Backend W D) → ℕ
  results_taken_count bs = sum_by
      (λ (b : Backend W D). local_mark_count b.disk_actor.actor.known.marks) bs

module _ {W D : Type 0} (m : DiskGhosts D) (world : WorldGhosts W) (t : TableView)
    (q : QueueView) where
  pub record AllWorkersServed (ws vs : List (Worker W D)) : Type 0 where
    pub as_many : length vs ≡ length ws
    pub each : (i : ℕ) (d : Worker W D) → i < length ws
        → WorkerServed m world t q (slice_index_or ws i d) (slice_index_or vs i d)

  -- each of these jobs may be listed by the backend at its place
  pub record RoundMayBeListed (bs : List (Backend W D)) (js : List Job) : Type 0 where
    pub fit : length js ≤ length bs
    pub backends : All (IsBackend m world t q) bs
    pub room : AllBackendsHaveRoom 64 bs
    pub fresh : All (IsNewJob world.relations) js

  -- each was, without the blocks that are left out
  pub record RoundListed (block_filter : Option BlockFilter) (bs cs : List (Backend W D))
      (js ks : List Job) : Type 0 where
    pub backends : AllZip (BackendAdvanced m world t q 64) bs cs
    pub by_place : (how : ListOptions) → AllHaveOptions how bs
        → AllJobsListed block_filter how world.told bs cs js ks
    pub unread : failed_results_taken bs + unread_job_count ks ≤ failed_results_taken cs
    pub results_bound : results_taken_count cs ≤ results_taken_count bs + count_unskipped block_filter js

  -- the first backend has read a map, and the others are as they were
  pub record FirstBackendReadMap (bs cs : List (Backend W D)) (relation pages : ℕ) (map : Map)
      (warnings : List ℕ) (end : Ending) : Type 0 where
    pub before : Backend W D
    pub after : Backend W D
    pub others : List (Backend W D)
    pub backends_were : bs ≡ before ∷ others
    pub backends_are : cs ≡ after ∷ others
    pub read : BackendReadMap m world t q before after relation pages map warnings end
