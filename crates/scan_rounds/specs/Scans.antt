-- A scan between its rounds, and what its end tells.
use Rattle.std.specs.Prelude.{◌≡◌, ℕ, ◌+◌, ◌<◌, ◌≤◌, ◌++◌, List, [], length, map, sum_by, Option}
use Rattle.std.specs.Prelude.{Some, vec_capacity, slice_index_or, is_some, true, min, drop, ◌^◌}
use Rattle.std.specs.Prelude.{◌-◌}
use Rattle.std.specs.List.{All, AllZip}
use Rattle.page_check.specs.declared.world.World.{Ghosts as WorldGhosts}
use Rattle.aio_word.specs.declared.Config.{Config}
use Rattle.aio_word.specs.declared.Known.{Known}
use Rattle.aio_word.specs.Tokens.{io_mark_count, failed_mark_count}
use Rattle.aio_handle.specs.EndStates.{AreTotals, TotalsView}
use Rattle.aio_handle.specs.Execution.{CountersFollowMarks, last_count}
use Rattle.aio_handle.specs.ContractViews.{ActorView, actor_known}
use Rattle.method_worker.specs.QueueViews.{QueueView}
use Rattle.aio_disk.specs.declared.disk.Disk.{Ghosts as DiskGhosts}
use Rattle.scan_settings.specs.ListOptions.{ListOptions, list_options}
use Rattle.scan_rounds.specs.DiskActors.{IsBackend, IsWorker}
use Rattle.scan_rounds.specs.Rounds.{AllHaveOptions, IsLeastRoom, failed_results_taken}
use Rattle.scan_rounds.specs.Rounds.{backend_disk_actor, worker_disk_actor}
use Rattle.scan_rounds.specs.declared.backend.Backend.{Backend}
use Rattle.scan_rounds.specs.declared.disk_actor.DiskActor.{DiskActor}
use Rattle.scan_rounds.specs.declared.scan.Scan.{Scan}

module _ {W D : Type 0} where
  -- all actors, the backends first, with their disks
  abbrev pub scan_disk_actors : Scan W D → List (DiskActor W D)
  scan_disk_actors s = map backend_disk_actor s.backends.items
      ++ map worker_disk_actor s.workers.items

  -- the options with which its backends list
  abbrev pub scan_options : Scan W D → ListOptions
  scan_options s = list_options s.rules s.page_text

  -- the disks, as they were when the scan was opened
  abbrev pub opened_disks : Scan W D → List D
  opened_disks s = s.opened.value.items

  -- an actor and its disk, by themselves
  abbrev pub actor_of : DiskActor W D → ActorView
  actor_of h = h.actor

  abbrev pub disk_of : DiskActor W D → Option D
  disk_of h = h.disk

  -- the lists of these actors, in their order
  abbrev pub known_lists : List (DiskActor W D) → List Known
  known_lists hs = map actor_known (map actor_of hs)

  abbrev pub HasDisk : DiskActor W D → Type 0
  HasDisk h = (disk : D) × (h.disk ≡ Some disk)

-- the disk has counted, since it was so, a read for each I/O that the actor has executed, and a
-- fault for each that failed
pub record DiskCountersFollowMarks {W D : Type 0} (m : DiskGhosts D) (opened : D)
    (h : DiskActor W D)
    : Type 0 where
  pub disk : D
  pub held : h.disk ≡ Some disk
  pub counters_follow : CountersFollowMarks (m.reads opened) (m.reads disk) (m.faults opened)
      (m.faults disk)
      h.actor.known.marks

module _ {W D : Type 0} (m : DiskGhosts D) (world : WorldGhosts W) where
  pub record IsScan (s : Scan W D) : Type 0 where
    pub backends_are : s.shared.table.config.backends ≡ length s.backends.items
    pub workers_are : s.shared.table.config.runners ≡ length s.workers.items
    pub some : 1 ≤ length s.backends.items
    pub all_backends : All (IsBackend m world s.shared.table s.shared.queue)
        s.backends.items
    pub all_workers : All (IsWorker m world s.shared.table s.shared.queue)
        s.workers.items
    -- each disk has counted what its actor has executed since the scan was opened
    pub counters_are : AllZip (DiskCountersFollowMarks m) (opened_disks s) (scan_disk_actors s)
    pub all_have_options : AllHaveOptions (scan_options s) s.backends.items
    pub room : IsLeastRoom s.backends.items s.room
    -- each job that ended in Unread has left the result of a failed I/O
    pub few_unread : s.unread ≤ failed_results_taken s.backends.items
    -- there is room for all actors and all disks at the end
    pub no_actors : s.actors.items ≡ []
    pub no_disks : s.disks.items ≡ []
    pub actors_fit : length s.backends.items + length s.workers.items ≤ vec_capacity s.actors
    pub disks_fit : length s.backends.items + length s.workers.items ≤ vec_capacity s.disks

module _ {W D : Type 0} (m : DiskGhosts D) (world : WorldGhosts W) where
  -- the numbers of the end, for disks that were so when the scan was opened, and are so now, and
  -- for the lists of their actors, in the same order
  pub record IsFinished (c : Config) (unread taken : ℕ) (opened disks : List D)
      (parts : List Known) (totals : TotalsView) : Type 0 where
    pub totals_are : AreTotals c parts totals
    pub parts_are : length parts ≡ length disks
    pub disks_are : length disks ≡ length opened
    pub tell : All (λ d. (m.told d ≡ world.told) × (m.relations d ≡ world.relations)) disks
    -- each incarnation was one read
    pub each_read : All (λ d. m.reads d < last_count) disks
        → totals.incarnations + sum_by m.reads opened ≡ sum_by m.reads disks
    -- those that runners executed are the reads of the workers' disks, which are the last
    pub each_worker_read : All (λ d. m.reads d < last_count) disks
        → totals.by_runners + sum_by m.reads (drop c.backends opened)
        ≡ sum_by m.reads (drop c.backends disks)
    -- and one result that a backend has taken
    pub each_taken : totals.incarnations ≡ taken
    -- each disk has counted a read for each I/O that its own actor has executed
    pub each_own : (i : ℕ) (p : Known) (d : D) → i < length disks
        → m.reads (slice_index_or disks i d) < last_count
        → io_mark_count (slice_index_or parts i p).marks + m.reads (slice_index_or opened i d)
        ≡ m.reads (slice_index_or disks i d)
    -- no actor has more failed executions than its own disk has counted faults
    pub each_fault : (i : ℕ) (p : Known) (d : D) → i < length disks
        → m.faults (slice_index_or disks i d) < last_count
        → failed_mark_count (slice_index_or parts i p).marks + m.faults (slice_index_or opened i d)
        ≤ m.faults (slice_index_or disks i d)
    -- each job that ended in Unread has a fault of its own
    pub each_unread : All (λ d. m.faults d < last_count) disks
        → unread + sum_by m.faults opened ≤ sum_by m.faults disks
    pub no_workers : c.runners ≡ 0 → totals.by_runners ≡ 0

-- the same backends and workers, over the same disks
pub record IsSameScan {W D : Type 0} (s s' : Scan W D) : Type 0 where
  pub config : s'.shared.table.config ≡ s.shared.table.config
  pub as_many : length s'.backends.items ≡ length s.backends.items
  pub opened : opened_disks s' ≡ opened_disks s
  pub options_same : scan_options s' ≡ scan_options s

-- where each backend has a seat, the queue was opened again, under the next number
abbrev pub IsOpenedAgain : {W D : Type 0} → List (Backend W D) → QueueView → QueueView → Type 0
IsOpenedAgain bs q q' = All (λ b. is_some b.seat ≡ true) bs
    → q'.reopened ≡ min (q.reopened + 1) (2 ^ 63 - 1)
