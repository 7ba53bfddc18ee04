-- How the shares of a run go out and come back, and how the job source goes on meanwhile.
use Rattle.std.specs.Prelude.{◌≡◌, ◌≢◌, ℕ, ◌+◌, ◌*◌, ◌≤◌, ◌<◌, ◌++◌, List, [], length, take}
use Rattle.std.specs.Prelude.{Option, Some, Bool, true, sum_by}
use Rattle.std.specs.List.{All, AllZip, flat_map}
use Rattle.page_check.specs.Told.{Told}
use Rattle.page_check.specs.declared.world.World.{Ghosts as WorldGhosts}
use Rattle.aio_disk.specs.Counts.{count_plus}
use Rattle.aio_word.specs.Tokens.{failed_result_count}
use Rattle.aio_handle.specs.ContractViews.{TableView}
use Rattle.handoff.specs.HandoffViews.{HandoffView, ClientView, IsClientOf}
use Rattle.method_worker.specs.QueueViews.{QueueView}
use Rattle.read_stream.specs.ActorProgress.{local_mark_count}
use Rattle.aio_disk.specs.declared.disk.Disk.{Ghosts as DiskGhosts}
use Rattle.scan_jobs.specs.BlockFilter.{BlockFilter}
use Rattle.scan_rounds.specs.DiskActors.{ActorHasRoom, DiskActorAdvanced, IsBackend}
use Rattle.scan_rounds.specs.DiskActors.{backend_options}
use Rattle.scan_jobs.specs.Jobs.{AllJobsAnswered, IsNewJob, count_unskipped, job_block_count}
use Rattle.scan_jobs.specs.Jobs.{unread_job_count}
use Rattle.scan_settings.specs.ListOptions.{ListOptions}
use Rattle.scan_rounds.specs.Shares.{AreTermsOf, ShareSpent, share_jobs}
use Rattle.scan_rounds.specs.declared.exchange.Phase.{Phase}
use Rattle.scan_rounds.specs.declared.exchange.Phase.TheVariants as phase
use Rattle.scan_rounds.specs.declared.exchange.RunProgress.{RunProgress}
use Rattle.scan_jobs.specs.declared.job.Job.{Job}
use Rattle.scan_jobs.specs.declared.job_source.JobSource.{Ghosts as JobSourceGhosts}
use Rattle.scan_rounds.specs.declared.share.RunTerms.{RunTerms}
use Rattle.scan_rounds.specs.declared.share.Share.{Share}
use Rattle.scan_rounds.specs.declared.shared.SharedState.{SharedState}

module _ {W D : Type 0} where
  -- each of these clients is that of the handoff at its place
  abbrev pub AreClientsOf : List (HandoffView (RunTerms W))
      → List (ClientView (RunTerms W) (Share W D)) → Type 0
  AreClientsOf handoffs clients = AllZip (λ h c. IsClientOf h c) handoffs clients

  -- each of them has requested the share at its place
  abbrev pub ClientsHold : List (ClientView (RunTerms W) (Share W D)) → List (Share W D) → Type 0
  ClientsHold clients shares = AllZip (λ c s. c.requested ≡ Some s) clients shares

  -- the jobs of these shares, in their order
  abbrev pub jobs_of_shares : List (Share W D) → List Job
  jobs_of_shares shares = flat_map (λ (s : Share W D). share_jobs s) shares

  -- the results that the backend of a share has taken, and those that its jobs may bring
  abbrev pub results_of_share : Option BlockFilter → Share W D → ℕ
  results_of_share block_filter s =
      local_mark_count s.backend.disk_actor.actor.known.marks
      + count_unskipped block_filter (share_jobs s)

  abbrev pub failed_results_of_share : Share W D → ℕ
  failed_results_of_share s = failed_result_count s.backend.disk_actor.actor.known.marks

  -- the backend of a share has room for its jobs, for so many blocks more and for n lives more
  abbrev pub ShareHasRoom : ℕ → ℕ → Share W D → Type 0
  ShareHasRoom n left s = ActorHasRoom (n + 64 * (s.count + left)) s.backend.disk_actor.actor

-- no share has jobs, and no more are asked for
abbrev pub NothingIsOut : {W D : Type 0} → List (Share W D) → Phase → Type 0
NothingIsOut rs p = All (λ (x : Share _ _). x.count ≡ 0) rs × (p ≢ phase.Asking)

module _ {W A : Type 0} (told : Option Told) (s : JobSourceGhosts A W) where
  -- since the first state the job source has taken back all jobs that it gave, but for these, which
  -- it gave last
  abbrev pub JobsAreOut : A → A → List Job → Type 0
  JobsAreOut start now jobs = (next : A) × s.follows start next × s.gives_jobs next jobs now

  -- the same, by what the job source is still asked for
  abbrev pub SourceLed : Phase → A → A → List Job → Type 0
  SourceLed phase.Asking start now jobs = JobsAreOut start now jobs
  SourceLed phase.Finishing start now jobs = s.is_over now × JobsAreOut start now jobs
  SourceLed phase.Stopped start now jobs = s.is_over now × s.follows start now

  -- what it has left fell by the blocks of these jobs at least; filter and options are the same
  pub record SourceKept (a b : A) (jobs : List Job) (unread : ℕ) : Type 0 where
    pub left : s.blocks_left b + job_block_count jobs ≤ s.blocks_left a
    pub unskipped : s.unskipped_left b + count_unskipped (s.block_filter a) jobs
        ≤ s.unskipped_left a
    pub unread_more : s.unread b ≤ s.unread a + unread
    pub filter_same : s.block_filter b ≡ s.block_filter a
    pub options_same : s.options b ≡ s.options a

  -- it took these jobs back, unless it wants none
  pub record JobsTakenBack (a b : A) (p r : Phase) (jobs : List Job) : Type 0 where
    pub kept : SourceKept a b [] (unread_job_count jobs)
    pub led : (start : A) (asked later : List Job) → SourceLed p start a (asked ++ later)
        → (p ≢ phase.Stopped → AllJobsAnswered (s.block_filter a) (s.options a) told asked jobs)
        → SourceLed r start b later
    pub not_asking : p ≢ phase.Asking → r ≢ phase.Asking

module _ {W A : Type 0} (world : WorldGhosts W) (s : JobSourceGhosts A W) where
  -- it was asked for jobs, and gave so many into the first of these places
  pub record JobsAsked (a b : A) (p r : Phase) (places : List Job) (count : ℕ) : Type 0 where
    pub kept : SourceKept world.told s a b (take count places) 0
    pub few : count ≤ length places
    pub fresh : All (IsNewJob world.relations) (take count places)
    pub led : (start : A) (jobs : List Job) → SourceLed world.told s p start a jobs
        → SourceLed world.told s r start b (jobs ++ take count places)
    pub none : count ≡ 0 → r ≢ phase.Asking
    pub stopped : p ≡ phase.Stopped → r ≡ phase.Stopped
    pub not_asking : p ≢ phase.Asking → r ≢ phase.Asking

-- where this is above 0, jobs were given and fewer blocks are left; where it is 0, none was
pub record SomeGiven {W D A : Type 0} (s : JobSourceGhosts A W) (a b : RunProgress A)
    (rs : List (Share W D)) (blocks : ℕ) : Type 0 where
  pub fewer_left : 0 < blocks → s.blocks_left b.job_source < s.blocks_left a.job_source
  pub none : blocks ≡ 0 → All (λ (x : Share W D). x.count ≡ 0) rs
      × (0 < length rs → b.phase ≢ phase.Asking)

module _ {W D : Type 0} (m : DiskGhosts D) (world : WorldGhosts W) (t : TableView)
    (q : QueueView) where
  -- a share came back: listed, where the job source wanted it
  pub record ShareTakenBack (block_filter : Option BlockFilter) (wanted : Bool) (s r : Share W D)
      : Type 0 where
    pub spent : ShareSpent m world t q block_filter s r
    pub answered : wanted ≡ true → AllJobsAnswered block_filter (backend_options s.backend)
        world.told (share_jobs s) (share_jobs r)

  -- a share that is out: its backend has room for its jobs and for all blocks that are left
  pub record ShareStands (places left : ℕ) (how : ListOptions) (s : Share W D) : Type 0 where
    pub is : IsBackend m world t q s.backend
    pub room : ShareHasRoom 0 left s
    pub options_are : backend_options s.backend ≡ how
    pub places_are : length s.jobs.items ≡ places
    pub fits : s.count ≤ places
    pub fresh : All (IsNewJob world.relations) (share_jobs s)

  module _ {A : Type 0} (s : JobSourceGhosts A W) where
    -- it is out in a run that has come so far
    abbrev pub ShareStandsIn : RunProgress A → Share W D → Type 0
    ShareStandsIn p x = ShareStands (length p.spare.items) (s.blocks_left p.job_source)
        (s.options p.job_source) x

    -- what was used up while these shares came back and went out again
    pub record SharesCounted (ss rs : List (Share W D)) (a b : RunProgress A) : Type 0 where
      pub stand : All (ShareStandsIn b) rs
      pub places_same : length b.spare.items ≡ length a.spare.items
      pub advanced : AllZip (λ (x y : Share W D). DiskActorAdvanced m world t
          x.backend.disk_actor y.backend.disk_actor) ss rs
      pub room : (n : ℕ) → All (ShareHasRoom n (s.blocks_left a.job_source)) ss
          → All (ShareHasRoom n (s.blocks_left b.job_source)) rs
      pub left : s.blocks_left b.job_source ≤ s.blocks_left a.job_source
      pub results_bound : sum_by (results_of_share (s.block_filter a.job_source)) rs
          + s.unskipped_left b.job_source
          ≤ sum_by (results_of_share (s.block_filter a.job_source)) ss
          + s.unskipped_left a.job_source
      pub more : ℕ
      pub unread_raised : b.unread ≡ count_plus more a.unread
      pub failed_more : sum_by failed_results_of_share ss + more
          ≤ sum_by failed_results_of_share rs
      pub unread_enough : s.unread b.job_source ≤ s.unread a.job_source + more
      pub filter_same : s.block_filter b.job_source ≡ s.block_filter a.job_source
      pub options_same : s.options b.job_source ≡ s.options a.job_source

    -- each came back and went out again: the jobs that were out first are finished, and those that
    -- were given stand last
    pub record SharesExchanged (ss rs : List (Share W D)) (a b : RunProgress A) : Type 0 where
      pub counted : SharesCounted ss rs a b
      pub not_asking : a.phase ≢ phase.Asking → b.phase ≢ phase.Asking
      pub led : (start : A) (later : List Job)
          → SourceLed world.told s a.phase start a.job_source (jobs_of_shares ss ++ later)
          → SourceLed world.told s b.phase start b.job_source (later ++ jobs_of_shares rs)

    -- the same over some time: all that was out first is finished
    pub record SharesAdvanced (ss rs : List (Share W D)) (a b : RunProgress A) : Type 0 where
      pub counted : SharesCounted ss rs a b
      pub led : (start : A)
          → SourceLed world.told s a.phase start a.job_source (jobs_of_shares ss)
          → SourceLed world.told s b.phase start b.job_source (jobs_of_shares rs)

module _ {W D A : Type 0} (m : DiskGhosts D) (world : WorldGhosts W) (s : JobSourceGhosts A W)
  where
    -- the shares of a run are out, and may be exchanged
    pub record MayExchange (shared : SharedState W) (block_filter : Option BlockFilter)
        (handoffs : List (HandoffView (RunTerms W)))
        (clients : List (ClientView (RunTerms W) (Share W D))) (a : RunProgress A) : Type 0 where
      pub shares : List (Share W D)
      pub terms : All (λ h. AreTermsOf h.key shared block_filter) handoffs
      pub clients_are : AreClientsOf handoffs clients
      pub hold : ClientsHold clients shares
      pub stand : All (ShareStandsIn m world shared.table shared.queue s a) shares
      pub some : 1 ≤ length shares
      pub places : 1 ≤ length a.spare.items
      pub filter_is : s.block_filter a.job_source ≡ block_filter
