-- A run from the shares that are out to the backends that have come back.
use Rattle.std.specs.Prelude.{◌≡◌, ℕ, ◌+◌, ◌*◌, ◌≤◌, List, [], length, Option, None, sum_by, map}
use Rattle.std.specs.List.{All, AllZip}
use Rattle.page_check.specs.declared.world.World.{Ghosts as WorldGhosts}
use Rattle.aio_disk.specs.Counts.{count_plus}
use Rattle.aio_handle.specs.ContractViews.{TableView}
use Rattle.handoff.specs.HandoffViews.{HandoffView, ClientView}
use Rattle.method_worker.specs.QueueViews.{QueueView}
use Rattle.aio_disk.specs.declared.disk.Disk.{Ghosts as DiskGhosts}
use Rattle.scan_jobs.specs.BlockFilter.{BlockFilter}
use Rattle.scan_rounds.specs.DiskActors.{DiskActorAdvanced, IsBackend}
use Rattle.scan_rounds.specs.Exchanges.{AreClientsOf, ClientsHold, MayExchange, ShareHasRoom}
use Rattle.scan_rounds.specs.Exchanges.{SourceLed}
use Rattle.scan_rounds.specs.Exchanges.{failed_results_of_share, jobs_of_shares}
use Rattle.scan_rounds.specs.Exchanges.{results_of_share}
use Rattle.scan_rounds.specs.Progress.{IsClosedByFirst}
use Rattle.scan_rounds.specs.Rounds.{AllBackendsHaveRoom, AllHaveOptions, backend_disk_actor}
use Rattle.scan_rounds.specs.Rounds.{failed_results_taken, results_taken_count}
use Rattle.scan_rounds.specs.declared.backend.Backend.{Backend}
use Rattle.scan_rounds.specs.declared.exchange.RunProgress.{RunProgress}
use Rattle.scan_jobs.specs.declared.job_source.JobSource.{Ghosts as JobSourceGhosts}
use Rattle.scan_rounds.specs.declared.run_memory.RunMemory.{RunMemory}
use Rattle.scan_rounds.specs.declared.share.RunTerms.{RunTerms}
use Rattle.scan_rounds.specs.declared.share.Share.{Share}
use Rattle.scan_rounds.specs.declared.shared.SharedState.{SharedState}

abbrev pub share_backend : {W D : Type 0} → Share W D → Backend W D
share_backend s = s.backend

-- no request of these clients is out
abbrev pub AreIdle : {W D : Type 0} → List (ClientView (RunTerms W) (Share W D)) → Type 0
AreIdle clients = All (λ (c : ClientView _ _). c.requested ≡ None) clients

-- none of its jobs is asked for
abbrev pub IsNewShare : {W D : Type 0} → ℕ → Share W D → Type 0
IsNewShare places r = (r.count ≡ 0) × (length r.jobs.items ≡ places)

-- backends that have nothing out, whose handles can have further lives
pub record BackendsMayGoOut {W D : Type 0} (m : DiskGhosts D) (world : WorldGhosts W)
    (t : TableView) (q : QueueView) (bs : List (Backend W D)) : Type 0 where
  pub backends : All (IsBackend m world t q) bs
  pub room : AllBackendsHaveRoom 0 bs

-- the memory of a run of so many backends under these terms
pub record IsRunMemory {W D : Type 0} (terms : RunTerms W) (count : ℕ) (m : RunMemory W D) : Type 0
  where
    pub handoffs_are : length m.handoffs.items ≡ count
    pub keys_are : All (λ (h : HandoffView (RunTerms W)). h.key ≡ terms) m.handoffs.items
    pub clients_are : AreClientsOf m.handoffs.items m.clients.items
    pub idle : AreIdle m.clients.items
    pub lists_are : length m.lists.items ≡ count
    pub lists_have_places : All (λ l. length l.items ≡ m.places) m.lists.items
    pub spare_has_places : length m.spare.items ≡ m.places
    pub places : 1 ≤ m.places

-- each job that the job source still had ended for want of memory
pub record JobsRefused {W A : Type 0} (s : JobSourceGhosts A W) (a b : A) : Type 0 where
  pub left : s.blocks_left b ≤ s.blocks_left a
  pub unskipped : s.unskipped_left b ≤ s.unskipped_left a
  pub unread : s.unread b ≤ s.unread a
  pub filter_same : s.block_filter b ≡ s.block_filter a
  pub options_same : s.options b ≡ s.options a
  pub source_follows : s.follows a b
  pub over : s.is_over b

module _ {W D A : Type 0} (m : DiskGhosts D) (world : WorldGhosts W) (s : JobSourceGhosts A W)
  where
    -- the backends are at home, with room for all that the job source wants, without these blocks
    pub record BackendsMayRun (t : TableView) (q : QueueView) (without : Option BlockFilter)
        (bs : List (Backend W D)) (a : A) : Type 0 where
      pub some : 1 ≤ length bs
      pub backends : All (IsBackend m world t q) bs
      pub room : AllBackendsHaveRoom (64 * s.blocks_left a) bs
      pub all_have_options : AllHaveOptions (s.options a) bs
      pub filter_is : s.block_filter a ≡ without

    -- the job source is over, and the backends are at home again
    pub record BackendsRan (t : TableView) (q : QueueView) (bs cs : List (Backend W D)) (a b : A)
        (before after : ℕ) : Type 0 where
      pub backends : All (IsBackend m world t q) cs
      pub as_many : length cs ≡ length bs
      pub actors_advanced : AllZip (DiskActorAdvanced m world t) (map backend_disk_actor bs)
          (map backend_disk_actor cs)
      pub room : (n : ℕ) → AllBackendsHaveRoom (n + 64 * s.blocks_left a) bs
          → AllBackendsHaveRoom (n + 64 * s.blocks_left b) cs
      pub results_bound : results_taken_count cs + s.unskipped_left b
          ≤ results_taken_count bs + s.unskipped_left a
      pub more : ℕ
      pub unread_raised : after ≡ count_plus more before
      pub failed_more : failed_results_taken bs + more ≤ failed_results_taken cs
      pub unread_enough : s.unread b ≤ s.unread a + more
      pub filter_same : s.block_filter b ≡ s.block_filter a
      pub options_same : s.options b ≡ s.options a
      pub all_have_options : AllHaveOptions (s.options b) cs
      pub source_follows : s.follows a b
      pub over : s.is_over b
      pub closed : IsClosedByFirst q cs

    -- the backends of a run are out with their shares, and the list that they come back to is empty
    pub record MayLeadRun (shared : SharedState W) (block_filter : Option BlockFilter)
        (handoffs : List (HandoffView (RunTerms W)))
        (clients : List (ClientView (RunTerms W) (Share W D))) (home : List (Backend W D))
        (capacity : ℕ) (a : RunProgress A) : Type 0 where
      pub exchange : MayExchange m world s shared block_filter handoffs clients a
      pub none_home : home ≡ []
      pub fit : length clients ≤ capacity

    -- these shares have come back: all jobs that the job source took back are finished, and it is over
    pub record SharesGathered (t : TableView) (q : QueueView) (ss : List (Share W D))
        (cs : List (Backend W D)) (a b : RunProgress A) : Type 0 where
      pub backends : All (IsBackend m world t q) cs
      pub advanced : AllZip (λ (x : Share W D) (c : Backend W D). DiskActorAdvanced m world t
          x.backend.disk_actor c.disk_actor) ss cs
      pub room : (n : ℕ) → All (ShareHasRoom n (s.blocks_left a.job_source)) ss
          → AllBackendsHaveRoom (n + 64 * s.blocks_left b.job_source) cs
      pub results_bound : results_taken_count cs + s.unskipped_left b.job_source
          ≤ sum_by (results_of_share (s.block_filter a.job_source)) ss
          + s.unskipped_left a.job_source
      pub more : ℕ
      pub unread_raised : b.unread ≡ count_plus more a.unread
      pub failed_more : sum_by failed_results_of_share ss + more ≤ failed_results_taken cs
      pub unread_enough : s.unread b.job_source ≤ s.unread a.job_source + more
      pub filter_same : s.block_filter b.job_source ≡ s.block_filter a.job_source
      pub options_same : s.options b.job_source ≡ s.options a.job_source
      pub all_have_options : AllHaveOptions (s.options b.job_source) cs
      pub led : (start : A)
          → SourceLed world.told s a.phase start a.job_source (jobs_of_shares ss)
          → s.is_over b.job_source × s.follows start b.job_source
      pub closed : IsClosedByFirst q cs

    -- whatever shares these clients held, they have come back
    pub record RunLed (t : TableView) (q : QueueView)
        (clients : List (ClientView (RunTerms W) (Share W D))) (cs : List (Backend W D))
        (a b : RunProgress A) : Type 0 where
      pub gathered : (ss : List (Share W D)) → ClientsHold clients ss
          → SharesGathered t q ss cs a b
