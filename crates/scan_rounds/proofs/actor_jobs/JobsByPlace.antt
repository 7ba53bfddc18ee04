-- Jobs that are listed by the backends at their places.
use Rattle.std.proofs.Common.{◌≡◌, ℕ, zero, suc, List, [], ◌∷◌, length, arith, cond, refl, subst}
use Rattle.std.specs.Prelude.{Option}
use Rattle.std.specs.List.{All}
use Rattle.std.proofs.lemmas.List.Elements.{All-cons, All-head, All-nil, All-tail}
use Rattle.std.proofs.lemmas.List.Sums.{sum_by-cons}
use Rattle.page_check.specs.declared.world.World.{Ghosts as WorldGhosts}
use Rattle.aio_word.specs.Tokens.{failed_result_count}
use Rattle.aio_handle.specs.ContractViews.{TableView}
use Rattle.method_worker.specs.QueueViews.{QueueView}
use Rattle.read_stream.specs.ActorProgress.{local_mark_count}
use Rattle.read_stream.specs.FailedReads.{MayBeUnread}
use Rattle.aio_disk.specs.declared.disk.Disk.{Ghosts as DiskGhosts}
use Rattle.scan_rounds.specs.DiskActors.{ActorHasRoom, BackendAdvanced, BackendListed, BackendMayList}
use Rattle.scan_rounds.specs.DiskActors.{IsBackend, backend_options}
use Rattle.scan_jobs.specs.Jobs.{IsNewJob, JobIsListed, entries_of_job, is_unread}
use Rattle.scan_settings.specs.ListOptions.{ListOptions}
use Rattle.scan_jobs.specs.BlockFilter.{BlockFilter}
use Rattle.scan_rounds.specs.Rounds.{RoundListed, RoundMayBeListed}
use Rattle.scan_rounds.specs.declared.backend.Backend.{Backend}
use Rattle.scan_jobs.specs.declared.job.Job.{Job}
use Rattle.scan_rounds.proofs.ActorsAdvance.{backend_stays}
use Rattle.scan_rounds.proofs.ListPairs.{zip-itself}

module _ {W D : Type 0} (m : DiskGhosts D) (world : WorldGhosts W) (t : TableView)
    (q : QueueView) where
  pub none_listed : {f : Option BlockFilter} (bs : List (Backend W D)) (js : List Job)
      → length js ≡ 0 → All (IsBackend m world t q) bs → RoundListed m world t q f bs bs js js
  none_listed bs (j ∷ js) none all = absurd (omega arith)
  none_listed bs [] none all = record {
    backends = zip-itself (BackendAdvanced m world t q 64) bs
        (λ i d lt. backend_stays m world t q 64 _ (all i d lt));
    by_place = λ how same. record { jobs_are = refl; each = λ i d j lt. absurd (omega arith) };
    unread = omega arith;
    results_bound = omega arith;
  }

  pub may_split : (b : Backend W D) (bs : List (Backend W D)) (j : Job) (js : List Job)
      → RoundMayBeListed m world t q (b ∷ bs) (j ∷ js)
      → BackendMayList m world t q b (j ∷ []) × RoundMayBeListed m world t q bs js
  may_split b bs j js may =
      let room : Backend W D → Type 0 = λ x. ActorHasRoom 64 x.disk_actor.actor in
      let new : Job → Type 0 = IsNewJob world.relations in (
        record {
          is = All-head (IsBackend m world t q) b bs may.backends;
          room = All-head room b bs may.room;
          fresh = All-cons new j [] (All-head new j js may.fresh) (All-nil new);
        },
        record {
          fit = omega (arith, may.fit);
          backends = All-tail (IsBackend m world t q) b bs may.backends;
          room = All-tail room b bs may.room;
          fresh = All-tail new j js may.fresh;
        },
      )

  -- the first, and those behind
  pub listed_beside : {f : Option BlockFilter} (b c : Backend W D) (bs cs : List (Backend W D)) (j k : Job)
      (js ks : List Job) → BackendListed m world t q
      (MayBeUnread b.disk_actor.actor c.disk_actor.actor.known) f b c (j ∷ []) (k ∷ [])
      → RoundListed m world t q f bs cs js ks
      → RoundListed m world t q f (b ∷ bs) (c ∷ cs) (j ∷ js) (k ∷ ks)
  listed_beside {f} b c bs cs j k js ks first rest = record {
    backends = (first.backend, rest.backends);
    by_place = λ how all.
        (let has : Backend W D → Type 0 = λ x. backend_options x ≡ how in
        let later = rest.by_place how (All-tail has b bs all) in
        let here : JobIsListed f how world.told
        (MayBeUnread b.disk_actor.actor c.disk_actor.actor.known) j k =
        subst (λ (n : ListOptions). JobIsListed f n world.told
        (MayBeUnread b.disk_actor.actor c.disk_actor.actor.known) j k) (All-head has b bs all)
        first.listed.0 in record {
          jobs_are = omega (arith, later.jobs_are);
          each = elim [
            | zero ↦ λ d i lt. here
            | suc n ↦ λ d i lt. later.each n d i (omega arith)
          ];
        });
    unread = (let w : Backend W D → ℕ = λ x. failed_result_count x.disk_actor.actor.known.marks in
        let u : Job → ℕ = λ x. cond (is_unread x.ending) 1 0 in
        omega (
          arith,
          first.unread,
          rest.unread,
          sum_by-cons w b bs,
          sum_by-cons w c cs,
          sum_by-cons u k [],
          sum_by-cons u k ks,
        ));
    results_bound = (let w : Backend W D → ℕ =
        λ x. local_mark_count x.disk_actor.actor.known.marks in
        let u : Job → ℕ = λ x. length (entries_of_job f x) in
        omega (
          arith,
          first.results_bound,
          rest.results_bound,
          sum_by-cons w b bs,
          sum_by-cons w c cs,
          sum_by-cons u j [],
          sum_by-cons u j js,
        ));
  }
