-- An actor with its disk, between its calls, and what a call makes of it.
use Rattle.std.specs.Prelude.{◌≡◌, ℕ, ◌+◌, ◌^◌, ◌<◌, ◌≤◌, ◌++◌, List, Option, Some}
use Rattle.std.specs.Prelude.{IfSome, is_some, length, true, ◌*◌}
use Rattle.std.specs.List.{All, AllZip}
use Rattle.page_check.specs.declared.world.World.{Ghosts as WorldGhosts}
use Rattle.page_check.specs.SynchronousAnswer.{Entry}
use Rattle.aio_word.specs.declared.Mark.{Mark}
use Rattle.aio_word.specs.Events.{lives_ended}
use Rattle.aio_word.specs.Tokens.{failed_result_count}
use Rattle.aio_handle.specs.EndStates.{HasNoOwnerTokens}
use Rattle.aio_handle.specs.Execution.{CountersFollowMarks}
use Rattle.aio_handle.specs.FreeHandles.{IsRoom}
use Rattle.aio_handle.specs.ContractViews.{TableView, ActorView, IsActorOf, IsSameActor}
use Rattle.read_stream.specs.FailedReads.{MayBeUnread}
use Rattle.read_stream.specs.Desks.{IsFreeDesk}
use Rattle.read_stream.specs.ActorProgress.{local_mark_count}
use Rattle.read_stream.specs.declared.desk.Desk.{Desk}
use Rattle.method_worker.specs.QueueViews.{QueueView, IsSeatOf}
use Rattle.vis_map.specs.Bits.{Map}
use Rattle.aio_disk.specs.declared.disk.Disk.{Ghosts as DiskGhosts}
use Rattle.scan_settings.specs.ListOptions.{ListOptions, list_options}
use Rattle.scan_settings.specs.declared.page_text.PageText.{PageText}
use Rattle.scan_jobs.specs.Jobs.{IsNewJob, JobIsListed, answered_ending, count_unskipped}
use Rattle.scan_jobs.specs.Jobs.{unread_job_count}
use Rattle.scan_jobs.specs.StreamBlocks.{IsStreamOfJobs, entries_of_blocks, map_blocks}
use Rattle.scan_jobs.specs.BlockFilter.{BlockFilter}
use Rattle.scan_jobs.specs.ConsumedPages.{MapHasPages, PagesPredicate, PagesConsumed}
use Rattle.scan_jobs.specs.declared.job.Ending.{Ending}
use Rattle.scan_jobs.specs.declared.source.Blocks.{Blocks}
use Rattle.scan_rounds.specs.Rings.{IsRingOf}
use Rattle.scan_rounds.specs.declared.disk_actor.DiskActor.{DiskActor}
use Rattle.scan_rounds.specs.declared.backend.Backend.{Backend}
use Rattle.scan_jobs.specs.declared.job.Job.{Job}
use Rattle.scan_rounds.specs.declared.worker.Worker.{Worker}

-- each of its handles can have so many lives more, at least
abbrev pub ActorHasRoom : ℕ → ActorView → Type 0
ActorHasRoom least a = (room : ℕ) × IsRoom a.known.config a.known room × (least ≤ room)

-- the options with which a backend lists
abbrev pub backend_options : {W D : Type 0} → Backend W D → ListOptions
backend_options b = list_options b.desk.settings.rules b.page_text

module _ {W D : Type 0} (m : DiskGhosts D) (world : WorldGhosts W)
    (t : TableView) where
  -- the actor is of the table and has nothing out, and its disk tells the world
  pub record IsDiskActor (h : DiskActor W D) : Type 0 where
    pub disk : D
    pub held : h.disk ≡ Some disk
    pub tells : (m.told disk ≡ world.told) × (m.relations disk ≡ world.relations)
    pub of : IsActorOf t h.actor
    pub rest : HasNoOwnerTokens h.actor.known

  -- the same actor went on by these marks, and its disk has counted a read for each I/O that it
  -- has executed on the way, and a fault for each that failed
  pub record DiskActorAdvanced (h k : DiskActor W D) : Type 0 where
    pub same : IsSameActor h.actor k.actor
    pub more : List Mark
    pub marks : k.actor.known.marks ≡ h.actor.known.marks ++ more
    pub before : D
    pub after : D
    pub had_disk : h.disk ≡ Some before
    pub has_disk : k.disk ≡ Some after
    pub counters_follow : CountersFollowMarks (m.reads before) (m.reads after) (m.faults before)
        (m.faults after) more

  -- the actor may read these blocks at this desk
  pub record ActorMayRead (h : DiskActor W D) (d : Desk W (Unit {0})) (b : Blocks) : Type 0 where
    pub disk_actor : IsDiskActor h
    pub backend : h.actor.known.number < h.actor.known.config.backends
    pub room : ActorHasRoom b.count h.actor
    pub desk : IsFreeDesk d
    pub relation_in : b.relation < world.relations
    pub within : b.first + b.count ≤ 2 ^ 32

  -- it has read them, up to this ending, and this is held of their pages
  pub record ActorReadBlocks (holds : PagesPredicate) (h k : DiskActor W D) (d e : Desk W
      (Unit {0}))
      (b : Blocks) (end : Ending) : Type 0 where
    pub disk_actor : IsDiskActor k
    pub advanced : DiskActorAdvanced h k
    pub lives_bound : (n : ℕ) → lives_ended n k.actor.known.marks
        ≤ lives_ended n h.actor.known.marks + b.count
    pub results_bound : local_mark_count k.actor.known.marks
        ≤ local_mark_count h.actor.known.marks + length (entries_of_blocks b)
    pub desk : IsFreeDesk e × (e.settings.rules ≡ d.settings.rules)
    pub given : PagesConsumed holds d.settings.rules world.told (MayBeUnread h.actor k.actor.known)
        (entries_of_blocks b) (answered_ending end)

  -- the actor may list these jobs at this desk, by a stream of these blocks
  pub record ActorMayList (h : DiskActor W D) (d : Desk W (Unit {0})) (b : Blocks) (js : List Job)
      : Type 0 where
    pub read : ActorMayRead h d b
    pub fresh : All (IsNewJob world.relations) js
    pub stream : IsStreamOfJobs b js

  -- it has listed those blocks that are not left out, and has written this of each page
  pub record ActorListedJobs (block_filter : Option BlockFilter) (page_text : PageText)
      (h k : DiskActor W D) (d e : Desk W (Unit {0})) (js ls : List Job) : Type 0 where
    pub disk_actor : IsDiskActor k
    pub advanced : DiskActorAdvanced h k
    pub lives_bound : (n : ℕ) → lives_ended n k.actor.known.marks
        ≤ lives_ended n h.actor.known.marks + 64 * length js
    pub results_bound : local_mark_count k.actor.known.marks
        ≤ local_mark_count h.actor.known.marks + count_unskipped block_filter js
    pub unread : failed_result_count h.actor.known.marks + unread_job_count ls
        ≤ failed_result_count k.actor.known.marks
    pub desk : IsFreeDesk e × (e.settings.rules ≡ d.settings.rules)
    pub listed : AllZip (JobIsListed block_filter (list_options d.settings.rules page_text)
        world.told (MayBeUnread h.actor k.actor.known)) js ls

  module _ (q : QueueView) where
    pub record IsBackend (b : Backend W D) : Type 0 where
      pub disk_actor : IsDiskActor b.disk_actor
      pub backend : b.disk_actor.actor.known.number < b.disk_actor.actor.known.config.backends
      pub desk : IsFreeDesk b.desk
      pub seat : IfSome b.seat (IsSeatOf q)
      pub has_seat : 1 ≤ t.config.runners → is_some b.seat ≡ true
      pub ring : IfSome b.ring (IsRingOf q)

    -- it went on, with at most so many lives more of each handle, and lists with the same options
    pub record BackendAdvanced (most : ℕ) (b c : Backend W D) : Type 0 where
      pub is : IsBackend c
      pub advanced : DiskActorAdvanced b.disk_actor c.disk_actor
      pub lives_bound : (h : ℕ) → lives_ended h c.disk_actor.actor.known.marks
          ≤ lives_ended h b.disk_actor.actor.known.marks + most
      pub options_same : backend_options c ≡ backend_options b

    -- it may list these jobs
    pub record BackendMayList (b : Backend W D) (js : List Job) : Type 0 where
      pub is : IsBackend b
      pub room : ActorHasRoom (64 * length js) b.disk_actor.actor
      pub fresh : All (IsNewJob world.relations) js

    -- it has listed them, without the blocks that are left out; these entries may be unread
    pub record BackendListed (may : Entry (Unit {0}) → Type 0) (block_filter : Option BlockFilter)
        (b c : Backend W D) (js ls : List Job) : Type 0 where
      pub backend : BackendAdvanced (64 * length js) b c
      pub results_bound : local_mark_count c.disk_actor.actor.known.marks
          ≤ local_mark_count b.disk_actor.actor.known.marks + count_unskipped block_filter js
      pub unread : failed_result_count b.disk_actor.actor.known.marks + unread_job_count ls
          ≤ failed_result_count c.disk_actor.actor.known.marks
      pub listed : AllZip (JobIsListed block_filter (backend_options b) world.told may) js ls

    -- it has read so many pages of a map, at most 65, up to this ending, and lists by the same
    -- options
    pub record BackendReadMap (b c : Backend W D) (relation pages : ℕ) (map : Map)
        (warnings : List ℕ) (end : Ending) : Type 0 where
      pub is : IsBackend c
      pub few : pages ≤ 65
      pub read : ActorReadBlocks (MapHasPages map warnings) b.disk_actor c.disk_actor b.desk c.desk
          (map_blocks relation pages) end
      pub options_same : backend_options c ≡ backend_options b

    pub record IsWorker (w : Worker W D) : Type 0 where
      pub disk_actor : IsDiskActor w.disk_actor
      pub worker : w.disk_actor.actor.known.config.backends ≤ w.disk_actor.actor.known.number
      pub seat : IsSeatOf q w.seat

    pub record WorkerServed (w v : Worker W D) : Type 0 where
      pub is : IsWorker v
      pub advanced : DiskActorAdvanced w.disk_actor v.disk_actor

-- as it stands among what a thread is given
unfoldable pub WorkerMayServe : {W D : Type 0} → DiskGhosts D → WorldGhosts W
    → TableView → QueueView → Worker W D → Type 0
WorkerMayServe m world t q w = IsWorker m world t q w
