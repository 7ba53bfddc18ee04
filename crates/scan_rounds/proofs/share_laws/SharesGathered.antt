-- Shares that have come back for good, with the queue closed.
use Rattle.std.proofs.Common.{◌≡◌, ℕ, ◌+◌, ◌*◌, ◌≤◌, List, [], ◌∷◌, ◌++◌, length, map, sum_by}
use Rattle.std.proofs.Common.{refl, ap, sym, ◌∙◌, subst, arith, take}
use Rattle.std.specs.Prelude.{◌≢◌, Option, slice_index_or, ⊤}
use Rattle.std.specs.List.{All, AllZip}
use Rattle.std.proofs.lemmas.List.{length-map}
use Rattle.std.proofs.lemmas.List.Elements.{All-cons, All-head, All-nil, All-tail}
use Rattle.page_check.specs.declared.world.World.{Ghosts as WorldGhosts}
use Rattle.aio_word.specs.Tokens.{failed_result_count}
use Rattle.aio_handle.specs.ContractViews.{TableView}
use Rattle.method_worker.specs.QueueViews.{QueueView}
use Rattle.read_stream.specs.ActorProgress.{local_mark_count}
use Rattle.aio_disk.specs.declared.disk.Disk.{Ghosts as DiskGhosts}
use Rattle.scan_jobs.specs.BlockFilter.{BlockFilter}
use Rattle.scan_rounds.specs.DiskActors.{ActorHasRoom, DiskActorAdvanced, IsBackend}
use Rattle.scan_rounds.specs.DiskActors.{backend_options}
use Rattle.scan_rounds.specs.Exchanges.{NothingIsOut, ShareHasRoom, ShareStands}
use Rattle.scan_rounds.specs.Exchanges.{SharesAdvanced, SourceLed, failed_results_of_share}
use Rattle.scan_rounds.specs.Exchanges.{jobs_of_shares, results_of_share}
use Rattle.scan_settings.specs.ListOptions.{ListOptions}
use Rattle.scan_rounds.specs.Progress.{IsClosedByFirst}
use Rattle.scan_rounds.specs.Rounds.{AllBackendsHaveRoom, AllHaveOptions, backend_disk_actor}
use Rattle.scan_rounds.specs.Rounds.{failed_results_taken, results_taken_count}
use Rattle.scan_rounds.specs.RunLeads.{SharesGathered, share_backend}
use Rattle.scan_rounds.specs.Shares.{ShareMayBeListed, ShareSpent}
use Rattle.scan_rounds.specs.declared.backend.Backend.{Backend}
use Rattle.scan_rounds.specs.declared.disk_actor.DiskActor.{DiskActor}
use Rattle.scan_rounds.specs.declared.exchange.Phase.{Phase}
use Rattle.scan_rounds.specs.declared.exchange.Phase.TheVariants as phase
use Rattle.scan_rounds.specs.declared.exchange.RunProgress.{RunProgress}
use Rattle.scan_jobs.specs.declared.job.Job.{Job}
use Rattle.scan_jobs.specs.declared.job_source.JobSource.{Ghosts as JobSourceGhosts}
use Rattle.scan_rounds.specs.declared.share.Share.{Share}
use Rattle.scan_rounds.proofs.ActorsAdvance.{goes_then}
use Rattle.scan_rounds.proofs.LeastRoom.{fewer, left_after}
use Rattle.scan_rounds.proofs.ListPairs.{zip-all, zip-flip, zip-length, zip-made, zip-sum}
use Rattle.scan_rounds.proofs.ListPairs.{zip-then, zip-unmade}
use Rattle.scan_rounds.proofs.QueueClosed.{SameActors, all_as, sum_as}
use Rattle.scan_jobs.proofs.Sums.{sum-mapped}

-- shares without jobs have none
none_out : {W D : Type 0} (rs : List (Share W D)) → All (λ (x : Share W D). x.count ≡ 0) rs
    → jobs_of_shares rs ≡ []
none_out [] none = refl
none_out (r ∷ rs) none =
    let first = All-head (λ (x : Share _ _). x.count ≡ 0) r rs none in
    let later = none_out rs (All-tail (λ (x : Share _ _). x.count ≡ 0) r rs none) in
    ap (λ (n : ℕ). take n r.jobs.items ++ jobs_of_shares rs) first ∙ later

all_mapped : {A B : Type 0} (P : B → Type 0) (f : A → B) (xs : List A) → All (λ x. P (f x)) xs
    → All P (map f xs)
all_mapped P f [] all = All-nil P
all_mapped P f (x ∷ xs) all = All-cons P (f x) (map f xs) (All-head (λ y. P (f y)) x xs all)
    (all_mapped P f xs (All-tail (λ y. P (f y)) x xs all))

-- behind no backends there are those of the shares that came back
pub only_those : {W D : Type 0} (bs home now : List (Backend W D)) (us : List (Share W D))
    → now ≡ bs → bs ≡ home ++ map share_backend us → home ≡ [] → now ≡ map share_backend us
only_those bs home now us is came none =
    is ∙ (came ∙ ap (λ (l : List (Backend _ _)). l ++ map share_backend us) none)

module _ {W D : Type 0} (m : DiskGhosts D) (world : WorldGhosts W) (t : TableView)
    (q : QueueView) where
  -- a share that is out may be listed
  pub may_be_listed : (places left : ℕ) (how : ListOptions) (s : Share W D)
      → ShareStands m world t q places left how s → ShareMayBeListed m world t q s
  may_be_listed places left how s stands = record {
    is = stands.is;
    room = fewer (64 * s.count) (0 + 64 * (s.count + left)) s.backend.disk_actor.actor (omega arith)
        stands.room;
    fits = omega (arith, stands.fits, stands.places_are);
    fresh = stands.fresh;
  }

  pub all_may_be_listed : (places left : ℕ) (how : ListOptions) (ss : List (Share W D))
      → All (ShareStands m world t q places left how) ss → All (ShareMayBeListed m world t q) ss
  all_may_be_listed places left how ss all i d lt =
      may_be_listed places left how (slice_index_or ss i d) (all i d lt)

  module _ (f : Option BlockFilter) (rs us : List (Share W D))
      (spent : AllZip (ShareSpent m world t q f) rs us) where
    -- the backends that came back
    pub are_backends : All (IsBackend m world t q) (map share_backend us)
    are_backends = all_mapped (IsBackend m world t q) share_backend us
        (zip-all (ShareSpent m world t q f) (λ _. ⊤)
        (λ (u : Share W D). IsBackend m world t q u.backend) (λ r u went _. went.backend.is) rs us
        spent (λ i d lt. tt))

    pub as_many : length (map share_backend us) ≡ length rs
    as_many = length-map us share_backend ∙ zip-length (ShareSpent m world t q f) rs us spent

    -- they have the options and the room of their shares, but for what was listed
    came_options : (how : ListOptions)
        → All (λ (r : Share W D). backend_options r.backend ≡ how) rs
        → AllHaveOptions how (map share_backend us)
    came_options how all = all_mapped (λ (b : Backend W D). backend_options b ≡ how) share_backend
        us (zip-all (ShareSpent m world t q f) (λ (r : Share W D). backend_options r.backend ≡ how)
        (λ (u : Share W D). backend_options u.backend ≡ how)
        (λ r u went is. went.backend.options_same ∙ is) rs us spent all)

    one_room : (n left : ℕ) (r u : Share W D) → ShareSpent m world t q f r u
        → IsBackend m world t q r.backend × ShareHasRoom n left r
        → ActorHasRoom (n + 64 * left) u.backend.disk_actor.actor
    one_room n left r u went has = left_after (64 * r.count) (n + 64 * left)
        r.backend.disk_actor.actor u.backend.disk_actor.actor went.backend.advanced.same
        has.0.backend
        (fewer (64 * r.count + (n + 64 * left)) (n + 64 * (r.count + left))
        r.backend.disk_actor.actor (omega arith) has.1)
        went.backend.lives_bound

    came_room : (n left : ℕ) → All (λ (r : Share W D). IsBackend m world t q r.backend) rs
        → All (ShareHasRoom n left) rs → AllBackendsHaveRoom (n + 64 * left) (map share_backend us)
    came_room n left are room =
        all_mapped (λ (b : Backend W D). ActorHasRoom (n + 64 * left) b.disk_actor.actor)
        share_backend us
        (zip-all (ShareSpent m world t q f)
        (λ (r : Share W D). IsBackend m world t q r.backend × ShareHasRoom n left r)
        (λ (u : Share W D). ActorHasRoom (n + 64 * left) u.backend.disk_actor.actor)
        (one_room n left) rs us spent (λ i d lt. (are i d lt, room i d lt)))

    -- their results
    came_results : results_taken_count (map share_backend us) ≤ sum_by (results_of_share f) rs
    came_results =
        let w : Backend W D → ℕ = λ b. local_mark_count b.disk_actor.actor.known.marks in
        let same : sum_by w (map share_backend us) ≡ sum_by (λ (u : Share W D). w u.backend) us =
        sum-mapped w share_backend us in
        let less : sum_by (λ (u : Share W D). w u.backend) us ≤ sum_by (results_of_share f) rs =
        zip-sum (ShareSpent m world t q f) (results_of_share f) (λ (u : Share W D). w u.backend)
        (λ r u went. went.results_bound) rs us spent in
        omega arith

    came_failed : sum_by failed_results_of_share rs ≤ failed_results_taken (map share_backend us)
    came_failed =
        let w : Backend W D → ℕ = λ b. failed_result_count b.disk_actor.actor.known.marks in
        let same : sum_by w (map share_backend us) ≡ sum_by (λ (u : Share W D). w u.backend) us =
        sum-mapped w share_backend us in
        let less : sum_by failed_results_of_share rs ≤ sum_by (λ (u : Share W D). w u.backend) us =
        zip-sum (λ (u r : Share W D). ShareSpent m world t q f r u)
        (λ (u : Share W D). w u.backend) failed_results_of_share
        (λ u r went. (let more = went.unread in omega arith)) us rs
        (zip-flip (ShareSpent m world t q f) rs us spent) in
        omega arith

module _ {W A : Type 0} (world : WorldGhosts W) (s : JobSourceGhosts A W)
    (none_follows : (a b : A) → s.gives_jobs a [] b → s.follows a b)
    (follows_on : (a b c : A) → s.follows a b → s.follows b c → s.follows a c) where
  -- it is over once nothing is out
  source_over : (p : Phase) (start b : A) → p ≢ phase.Asking
      → SourceLed world.told s p start b [] → s.is_over b × s.follows start b
  source_over phase.Asking start b not led = absurd (not refl)
  source_over phase.Finishing start b not led = (
    led.0,
    follows_on start led.1.0 b led.1.1 (none_follows led.1.0 b led.1.2),
  )
  source_over phase.Stopped start b not led = led

  pub gathered : {D : Type 0} (m : DiskGhosts D) (t : TableView) (q : QueueView)
      (ss rs us : List (Share W D)) (cs : List (Backend W D)) (a b : RunProgress A)
      → SharesAdvanced m world t q s ss rs a b → NothingIsOut rs b.phase
      → AllZip (ShareSpent m world t q (s.block_filter a.job_source)) rs us
      → SameActors (map share_backend us) cs → All (IsBackend m world t q) cs
      → ((how : ListOptions) → AllHaveOptions how (map share_backend us) → AllHaveOptions how cs)
      → IsClosedByFirst q cs → SharesGathered m world s t q ss cs a b
  gathered {D} m t q ss rs us cs a b e nothing spent same are options closed =
      let f = s.block_filter a.job_source in
      let left = s.blocks_left b.job_source in
      let ds = map share_backend us in
      let counted = e.counted in
      let results : results_taken_count cs ≡ results_taken_count ds =
      sum_as (λ (h : DiskActor W D). local_mark_count h.actor.known.marks) ds cs same in
      let failed : failed_results_taken cs ≡ failed_results_taken ds =
      sum_as (λ (h : DiskActor W D). failed_result_count h.actor.known.marks) ds cs same in
      let Went : Share W D → DiskActor W D → Type 0 =
      λ x h. DiskActorAdvanced m world t x.backend.disk_actor h in
      record {
        backends = are;
        advanced = zip-unmade Went backend_disk_actor ss cs
            (subst (λ (hs : List (DiskActor W D)). AllZip Went ss hs) (sym same)
            (zip-made Went backend_disk_actor ss ds
            (zip-made (λ (x : Share W D) (c : Backend W D). Went x c.disk_actor) share_backend ss us
            (zip-then (λ (x y : Share W D). DiskActorAdvanced m world t x.backend.disk_actor
            y.backend.disk_actor) (ShareSpent m world t q f)
            (λ (x u : Share W D). Went x u.backend.disk_actor)
            (λ x y u one two. goes_then m world t x.backend.disk_actor y.backend.disk_actor
            u.backend.disk_actor one two.backend.advanced) ss rs us counted.advanced spent))));
        room = λ n has. all_as (λ (h : DiskActor W D). ActorHasRoom (n + 64 * left) h.actor) ds cs
            same (came_room m world t q f rs us spent n left
            (λ i d lt. (counted.stand i d lt).is) (counted.room n has));
        results_bound = omega (
          arith,
          results,
          came_results m world t q f rs us spent,
          counted.results_bound,
        );
        more = counted.more;
        unread_raised = counted.unread_raised;
        failed_more = omega (
          arith,
          failed,
          came_failed m world t q f rs us spent,
          counted.failed_more,
        );
        unread_enough = counted.unread_enough;
        filter_same = counted.filter_same;
        options_same = counted.options_same;
        all_have_options = options (s.options b.job_source) (came_options m world t q f rs us spent
            (s.options b.job_source) (λ i d lt. (counted.stand i d lt).options_are));
        led = λ start led. source_over b.phase start b.job_source nothing.1
            (subst (λ (jobs : List Job). SourceLed world.told s b.phase start b.job_source jobs)
            (none_out rs nothing.0) (e.led start led));
        closed = closed;
      }
