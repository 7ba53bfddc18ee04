-- An actor that has listed the jobs of a stream.
use Rattle.std.proofs.Common.{◌≡◌, ℕ, ◌+◌, ◌*◌, ◌<◌, ◌≤◌, Bool, true, false, List, [], ◌∷◌}
use Rattle.std.proofs.Common.{length, map, refl, sym, ap, ◌∙◌, subst, arith, cond}
use Rattle.std.proofs.Common.{length-append}
use Rattle.std.specs.Prelude.{Option}
use Rattle.std.specs.List.{All, AllZip}
use Rattle.std.proofs.lemmas.List.Elements.{All-head, All-tail}
use Rattle.std.proofs.lemmas.List.Elements.{All-cons}
use Rattle.std.proofs.lemmas.List.Sums.{sum_by-cons}
use Rattle.page_check.specs.SynchronousAnswer.{reading_of}
use Rattle.page_check.specs.IsAnswer.{IsAnswer}
use Rattle.heap_scan.specs.Job.{endings_of}
use Rattle.page_check.specs.declared.rules.PageRules.{PageRules}
use Rattle.page_check.specs.declared.world.World.{Ghosts as WorldGhosts}
use Rattle.aio_disk.specs.declared.disk.Disk.{Ghosts as DiskGhosts}
use Rattle.aio_handle.specs.ContractViews.{TableView}
use Rattle.aio_word.specs.Tokens.{failed_result_count}
use Rattle.method_worker.specs.QueueViews.{QueueView}
use Rattle.read_stream.specs.FailedReads.{MayBeUnread}
use Rattle.read_stream.specs.declared.desk.Desk.{Desk}
use Rattle.read_stream.proofs.UnreadCauses.{results_more}
use Rattle.scan_jobs.specs.BlockFilter.{BlockFilter, filter_of_skipping}
use Rattle.scan_jobs.specs.ConsumedPages.{HaveTaken}
use Rattle.scan_rounds.specs.DiskActors.{ActorListedJobs, ActorMayList, BackendMayList}
use Rattle.scan_rounds.specs.DiskActors.{ActorReadBlocks, DiskActorAdvanced}
use Rattle.scan_jobs.specs.StreamBlocks.{IsStreamOfJobs}
use Rattle.scan_jobs.specs.StreamBlocks.{entries_of_blocks}
use Rattle.scan_jobs.specs.Jobs.{JobIsListed, JobOutline, answered_ending}
use Rattle.scan_jobs.specs.Jobs.{ended_jobs, entries_of_job, entries_of_jobs, is_unread}
use Rattle.scan_jobs.specs.Jobs.{IsNewJob, count_unskipped, job_outline}
use Rattle.scan_settings.specs.ListOptions.{list_options}
use Rattle.scan_settings.specs.PageFormats.{page_format}
use Rattle.scan_settings.specs.declared.page_text.PageText.{PageText}
use Rattle.scan_rounds.specs.declared.backend.Backend.{Backend}
use Rattle.scan_rounds.specs.declared.disk_actor.DiskActor.{DiskActor}
use Rattle.scan_jobs.specs.declared.source.Blocks.{Blocks}
use Rattle.scan_jobs.specs.declared.job.Ending.{Ending}
use Rattle.scan_jobs.specs.declared.job.Job.{Job}
use Rattle.scan_rounds.proofs.LeastRoom.{fewer}
use Rattle.scan_rounds.proofs.actor_jobs.UnreadLeavesResult.{unread_after}
use Rattle.scan_jobs.proofs.UnitEntries.{E, G}
use Rattle.scan_jobs.proofs.JobsListed.{NotEnded, all_listed, one_unread_at_most}

-- and none has ended
new_jobs_not_ended : (relations : ℕ) (js : List Job) → All (IsNewJob relations) js → All NotEnded js
new_jobs_not_ended relations js fresh = λ i d lt. (fresh i d lt).no_ending

-- nor have they where they ask for the same, and have ended alike
alike_not_ended : (js ls : List Job) → map job_outline ls ≡ map job_outline js → All NotEnded js
    → All NotEnded ls
alike_not_ended [] [] same all = all
alike_not_ended [] (l ∷ ls) same all = absurd (cc)
alike_not_ended (j ∷ js) [] same all = absurd (cc)
alike_not_ended (j ∷ js) (l ∷ ls) same all =
    let head : job_outline l ≡ job_outline j = cc in
    let tail : map job_outline ls ≡ map job_outline js = cc in
    All-cons NotEnded l ls
    (ap (λ (o : JobOutline). o.ending) head ∙ All-head NotEnded j js all)
    (alike_not_ended js ls tail (All-tail NotEnded j js all))

entries_count : (block_filter : Option BlockFilter) (js : List Job)
    → length (entries_of_jobs block_filter js) ≡ count_unskipped block_filter js
entries_count block_filter [] = refl
entries_count block_filter (j ∷ js) =
    let later = entries_count block_filter js in
    omega (
      arith,
      later,
      length-append (entries_of_job block_filter j) (entries_of_jobs block_filter js),
      sum_by-cons (λ (k : Job). length (entries_of_job block_filter k)) j js,
    )

module _ {W D : Type 0} (m : DiskGhosts D) (world : WorldGhosts W) (t : TableView) where
  -- a stream that ended in Unread has left the result of a failed I/O
  failed_more : (h k : DiskActor W D) (b : Blocks) (pages : List G) (rules : PageRules) (end : Ending)
      (u : Bool) → is_unread end ≡ u → DiskActorAdvanced m world t h k
      → IsAnswer (reading_of rules world.told) (MayBeUnread h.actor k.actor.known)
      (entries_of_blocks b) (record { pages = pages; endings = endings_of (answered_ending end) })
      → failed_result_count h.actor.known.marks + cond u 1 0
      ≤ failed_result_count k.actor.known.marks
  failed_more h k b pages rules end true is went answers =
      unread_after (reading_of rules world.told) h.actor k.actor.known (entries_of_blocks b) pages end
      answers is
  failed_more h k b pages rules end false is went answers =
      let more = results_more h.actor.known.marks went.more in
      let same = ap failed_result_count went.marks in omega arith

  -- an actor that read the blocks of jobs, which took their pages, has listed the jobs
  pub by_text : (page_text : PageText) (h k : DiskActor W D) (d e : Desk W (Unit {0})) (b : Blocks)
      (js ls : List Job) (taken : ℕ) (end : Ending) → IsStreamOfJobs b js
      → All (IsNewJob world.relations) js → map job_outline ls ≡ map job_outline js
      → ActorReadBlocks m world t (HaveTaken (page_format page_text) taken ls) h k d e b end
      → ActorListedJobs m world t (filter_of_skipping b.by_map) page_text h k d e js
      (ended_jobs ls taken end)
  by_text page_text h k d e b js ls taken end stream fresh same read =
      let f = filter_of_skipping b.by_map in
      let how = list_options d.settings.rules page_text in
      let may : E → Type 0 = MayBeUnread h.actor k.actor.known in
      let given = read.given in
      let unended = new_jobs_not_ended world.relations js fresh in
      record {
        disk_actor = read.disk_actor;
        advanced = read.advanced;
        lives_bound = λ n. (let lived = read.lives_bound n in omega (arith, stream.few.0));
        results_bound = omega (
          arith,
          read.results_bound,
          ap length stream.entries,
          entries_count f js,
        );
        unread = (let few = one_unread_at_most ls taken end (alike_not_ended js ls same unended) in
            let more = failed_more h k b given.pages d.settings.rules end (is_unread end) refl
            read.advanced given.answers in omega arith);
        desk = read.desk;
        listed = subst (λ (n : ℕ). AllZip (JobIsListed f how world.told may) js
            (ended_jobs ls n end)) (sym given.held.0)
            (all_listed f how world.told may js ls given.pages end same unended stream.whole
            given.held.1 given.none_zeroed
            (subst (λ (es : List E). IsAnswer (reading_of d.settings.rules world.told) may es
            (record { pages = given.pages; endings = endings_of (answered_ending end) }))
            stream.entries given.answers));
      }

-- a backend may list jobs that one stream reads
pub may_list : {W D : Type 0} (m : DiskGhosts D) (world : WorldGhosts W) (t : TableView)
    (q : QueueView) (b : Backend W D) (blocks : Blocks) (js : List Job)
    → BackendMayList m world t q b js → IsStreamOfJobs blocks js
    → ActorMayList m world t b.disk_actor b.desk blocks js
may_list m world t q b blocks [] may stream = absurd (omega (arith, stream.some))
may_list m world t q b blocks (j ∷ js) may stream = record {
  read = record {
    disk_actor = may.is.disk_actor;
    backend = may.is.backend;
    room = fewer blocks.count (64 * length (j ∷ js)) b.disk_actor.actor stream.few.0 may.room;
    desk = may.is.desk;
    relation_in = subst (λ n. n < world.relations) (stream.relation_is j)
        (All-head (IsNewJob world.relations) j js may.fresh).relation_in;
    within = stream.within;
  };
  fresh = may.fresh;
  stream = stream;
}
