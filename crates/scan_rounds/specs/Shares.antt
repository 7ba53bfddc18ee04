-- What becomes of the jobs of a share, and what the threads of a run agree on.
use Rattle.std.specs.Prelude.{◌≡◌, ◌+◌, ◌*◌, ◌≤◌, List, length, take, Option, Some, None}
use Rattle.std.specs.List.{All}
use Rattle.std.specs.declared.snapshot.Snapshot.{Snapshot}
use Rattle.page_check.specs.declared.world.World.{Ghosts as WorldGhosts}
use Rattle.aio_word.specs.Tokens.{failed_result_count}
use Rattle.aio_handle.specs.ContractViews.{TableView}
use Rattle.method_worker.specs.QueueViews.{QueueView}
use Rattle.read_stream.specs.ActorProgress.{local_mark_count}
use Rattle.aio_disk.specs.declared.disk.Disk.{Ghosts as DiskGhosts}
use Rattle.vis_map.specs.Bits.{Map}
use Rattle.vis_map.specs.declared.map.Skip.{Skip}
use Rattle.scan_jobs.specs.BlockFilter.{BlockFilter, map_filter}
use Rattle.scan_rounds.specs.DiskActors.{ActorHasRoom, BackendAdvanced, IsBackend, backend_options}
use Rattle.scan_jobs.specs.Jobs.{AllJobsAnswered, IsNewJob, count_unskipped, unread_job_count}
use Rattle.scan_jobs.specs.declared.job.Job.{Job}
use Rattle.scan_rounds.specs.declared.share.RunTerms.{RunTerms}
use Rattle.scan_rounds.specs.declared.share.Share.{Share}
use Rattle.scan_rounds.specs.declared.shared.SharedState.{SharedState}

-- the blocks that the threads of a run leave out
abbrev pub terms_choice : Option (Snapshot Map × Skip) → Option BlockFilter
terms_choice None = None
terms_choice (Some s) = map_filter s.0.value s.1

abbrev pub terms_filter : {W : Type 0} → RunTerms W → Option BlockFilter
terms_filter k = terms_choice k.by_map

-- they are those of a run over this state, without these blocks
abbrev pub AreTermsOf : {W : Type 0} → RunTerms W → SharedState W → Option BlockFilter → Type 0
AreTermsOf k shared block_filter = (k.shared.value ≡ shared) × (terms_filter k ≡ block_filter)

-- the jobs of a share
abbrev pub share_jobs : {W D : Type 0} → Share W D → List Job
share_jobs s = take s.count s.jobs.items

module _ {W D : Type 0} (m : DiskGhosts D) (world : WorldGhosts W) (t : TableView)
    (q : QueueView) where
  -- the backend of a share may list its jobs
  pub record ShareMayBeListed (s : Share W D) : Type 0 where
    pub is : IsBackend m world t q s.backend
    pub room : ActorHasRoom (64 * s.count) s.backend.disk_actor.actor
    pub fits : s.count ≤ length s.jobs.items
    pub fresh : All (IsNewJob world.relations) (share_jobs s)

  -- what it has used up at most, once it has listed some of them
  pub record ShareSpent (block_filter : Option BlockFilter) (s r : Share W D) : Type 0 where
    pub backend : BackendAdvanced m world t q (64 * s.count) s.backend r.backend
    pub results_bound : local_mark_count r.backend.disk_actor.actor.known.marks
        ≤ local_mark_count s.backend.disk_actor.actor.known.marks
        + count_unskipped block_filter (share_jobs s)
    pub unread : failed_result_count s.backend.disk_actor.actor.known.marks
        + unread_job_count (share_jobs r)
        ≤ failed_result_count r.backend.disk_actor.actor.known.marks
    pub count_same : r.count ≡ s.count
    pub places_same : length r.jobs.items ≡ length s.jobs.items

  -- it has listed all of them, without the blocks that are left out
  pub record ShareListed (block_filter : Option BlockFilter) (s r : Share W D) : Type 0 where
    pub spent : ShareSpent block_filter s r
    pub answered : AllJobsAnswered block_filter (backend_options s.backend) world.told
        (share_jobs s) (share_jobs r)
