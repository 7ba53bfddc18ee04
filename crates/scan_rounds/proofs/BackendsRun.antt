-- The backends of a run: they go out with no job, and come back.
use Rattle.std.proofs.Common.{◌≡◌, ℕ, ◌+◌, ◌*◌, ◌≤◌, List, [], ◌∷◌, ◌++◌, length, map, take, refl}
use Rattle.std.proofs.Common.{sym, ap, ◌∙◌, subst, arith, sum_by, length-append}
use Rattle.std.specs.Prelude.{Option, Some, slice_index_or}
use Rattle.std.specs.List.{All, AllZip}
use Rattle.std.proofs.lemmas.List.{get_or-map, length-map, nil_from_length}
use Rattle.std.proofs.lemmas.List.Elements.{All-head, All-nil, All-tail}
use Rattle.std.proofs.lemmas.List.Sums.{sum_by-cons}
use Rattle.page_check.specs.declared.world.World.{Ghosts as WorldGhosts}
use Rattle.aio_disk.specs.Counts.{count_plus}
use Rattle.aio_word.specs.Tokens.{failed_result_count}
use Rattle.aio_handle.specs.ContractViews.{TableView}
use Rattle.handoff.specs.HandoffViews.{HandoffView, ClientView, IsClientOf}
use Rattle.method_worker.specs.QueueViews.{QueueView}
use Rattle.read_stream.specs.ActorProgress.{local_mark_count}
use Rattle.aio_disk.specs.declared.disk.Disk.{Ghosts as DiskGhosts}
use Rattle.scan_jobs.specs.BlockFilter.{BlockFilter}
use Rattle.scan_rounds.specs.DiskActors.{ActorHasRoom, DiskActorAdvanced, IsBackend}
use Rattle.scan_rounds.specs.DiskActors.{backend_options}
use Rattle.scan_rounds.specs.Exchanges.{AreClientsOf, ClientsHold, MayExchange}
use Rattle.scan_rounds.specs.Exchanges.{ShareHasRoom, ShareStandsIn, SharesAdvanced, SourceLed}
use Rattle.scan_rounds.specs.Exchanges.{failed_results_of_share, jobs_of_shares}
use Rattle.scan_rounds.specs.Exchanges.{results_of_share}
use Rattle.scan_jobs.specs.Jobs.{IsNewJob, count_unskipped}
use Rattle.scan_settings.specs.ListOptions.{ListOptions}
use Rattle.scan_rounds.specs.Progress.{IsClosedByFirst}
use Rattle.scan_rounds.specs.Rounds.{AllBackendsHaveRoom, AllHaveOptions, backend_disk_actor}
use Rattle.scan_rounds.specs.Rounds.{failed_results_taken, results_taken_count}
use Rattle.scan_rounds.specs.RunLeads.{BackendsMayRun, BackendsRan, IsNewShare, JobsRefused}
use Rattle.scan_rounds.specs.RunLeads.{SharesGathered, share_backend}
use Rattle.scan_rounds.specs.Shares.{AreTermsOf, share_jobs}
use Rattle.scan_rounds.specs.declared.backend.Backend.{Backend}
use Rattle.scan_rounds.specs.declared.disk_actor.DiskActor.{DiskActor}
use Rattle.scan_rounds.specs.declared.exchange.Phase.TheVariants as phase
use Rattle.scan_rounds.specs.declared.exchange.RunProgress.{RunProgress}
use Rattle.scan_jobs.specs.declared.job.Job.{Job}
use Rattle.scan_jobs.specs.declared.job_source.JobSource.{Ghosts as JobSourceGhosts}
use Rattle.scan_rounds.specs.declared.share.RunTerms.{RunTerms}
use Rattle.scan_rounds.specs.declared.share.Share.{Share}
use Rattle.scan_rounds.specs.declared.shared.SharedState.{SharedState}
use Rattle.scan_rounds.proofs.ActorsAdvance.{goes_then, stays_put}
use Rattle.scan_rounds.proofs.totals.CountRaised.{raised_none, raised_twice}
use Rattle.scan_rounds.proofs.LeastRoom.{fewer}
use Rattle.scan_rounds.proofs.ListPairs.{zip-itself, zip-length, zip-map, zip-then}
use Rattle.scan_rounds.proofs.QueueClosed.{all_as, many_as, sum_as}
use Rattle.scan_jobs.proofs.Sums.{sum-mapped}

all_mapped : {X Y : Type 0} (P : Y → Type 0) (f : X → Y) (xs : List X) → All P (map f xs)
    → All (λ x. P (f x)) xs
all_mapped P f xs all i d lt =
    subst P (get_or-map f xs i d (f d) lt) (all i (f d) (omega (arith, length-map xs f)))

module _ {W D : Type 0} (places : ℕ) where
  no_jobs : (x : Share W D) → IsNewShare places x → share_jobs x ≡ []
  no_jobs x new = ap (λ n. take n x.jobs.items) new.0

  -- new shares have no jobs
  none_out : (ss : List (Share W D)) → All (IsNewShare places) ss → jobs_of_shares ss ≡ []
  none_out [] new = refl
  none_out (x ∷ ss) new =
      ap (λ (js : List Job). js ++ jobs_of_shares ss)
      (no_jobs x (All-head (IsNewShare places) x ss new))
      ∙ none_out ss (All-tail (IsNewShare places) x ss new)

  -- and their backends are those that went out
  results_out : (f : Option BlockFilter) (ss : List (Share W D)) → All (IsNewShare places) ss
      → sum_by (results_of_share f) ss ≡ results_taken_count (map share_backend ss)
  results_out f [] new = refl
  results_out f (x ∷ ss) new =
      let taken : Backend W D → ℕ = λ b. local_mark_count b.disk_actor.actor.known.marks in
      let none = ap (count_unskipped f) (no_jobs x (All-head (IsNewShare places) x ss new)) in
      let rest = results_out f ss (All-tail (IsNewShare places) x ss new) in
      omega (
        arith,
        none,
        rest,
        sum_by-cons (results_of_share f) x ss,
        sum_by-cons taken (share_backend x) (map share_backend ss),
      )

  failed_out : (ss : List (Share W D))
      → sum_by failed_results_of_share ss ≡ failed_results_taken (map share_backend ss)
  failed_out ss = sym (sum-mapped (λ (b : Backend W D). failed_result_count
      b.disk_actor.actor.known.marks) share_backend ss)

  room_out : (n left : ℕ) (ss : List (Share W D)) → All (IsNewShare places) ss
      → AllBackendsHaveRoom (n + 64 * left) (map share_backend ss) → All (ShareHasRoom n left) ss
  room_out n left ss new all i d lt =
      let x = slice_index_or ss i d in
      let none = (new i d lt).0 in
      fewer (n + 64 * (x.count + left)) (n + 64 * left) x.backend.disk_actor.actor (omega arith)
      (all_mapped (λ (b : Backend W D). ActorHasRoom (n + 64 * left) b.disk_actor.actor)
      share_backend ss all i d lt)

-- all handoffs that were opened under these terms
pub all_terms : {W : Type 0} (k : RunTerms W) (shared : SharedState W) (f : Option BlockFilter)
    (handoffs opened : List (HandoffView (RunTerms W))) → handoffs ≡ opened
    → All (λ (h : HandoffView (RunTerms W)). h.key ≡ k) opened → AreTermsOf k shared f
    → All (λ (h : HandoffView (RunTerms W)). AreTermsOf h.key shared f) handoffs
all_terms {W} k shared f handoffs opened same keys terms = rw same
    (λ i d lt. subst (λ (l : RunTerms W). AreTermsOf l shared f) (sym (keys i d lt)) terms)

module _ {W D : Type 0} where
  -- all backends went out, each to a client
  pub all_went_out : (handoffs : List (HandoffView (RunTerms W)))
      (clients : List (ClientView (RunTerms W) (Share W D))) (ss : List (Share W D))
      (bs home : List (Backend W D)) → length handoffs ≡ length bs → AreClientsOf handoffs clients
      → ClientsHold clients ss → bs ≡ home ++ map share_backend ss
      → (home ≡ []) × (bs ≡ map share_backend ss)
  all_went_out handoffs clients ss bs home as_many clients_are hold out =
      let long = ap length out in
      let none : home ≡ [] = nil_from_length home (omega (
        arith,
        long,
        length-append home (map share_backend ss),
        length-map ss share_backend,
        zip-length (λ (h : HandoffView (RunTerms W)) (c : ClientView (RunTerms W) (Share W D)).
            IsClientOf h c) handoffs clients clients_are,
        zip-length (λ (c : ClientView (RunTerms W) (Share W D)) (x : Share W D).
            c.requested ≡ Some x) clients ss hold,
      )) in
      (none, out ∙ ap (λ (l : List (Backend W D)). l ++ map share_backend ss) none)

module _ {W D A : Type 0} (m : DiskGhosts D) (world : WorldGhosts W) (s : JobSourceGhosts A W)
  where
    -- the shares of backends that may run stand when they go out
    new_shares_stand : (t : TableView) (q : QueueView) (f : Option BlockFilter)
        (ss : List (Share W D)) (bs : List (Backend W D)) (a : RunProgress A)
        → All (IsNewShare (length a.spare.items)) ss → bs ≡ map share_backend ss
        → BackendsMayRun m world s t q f bs a.job_source
        → All (ShareStandsIn m world t q s a) ss
    new_shares_stand t q f ss bs a new out may i d lt =
        let x = slice_index_or ss i d in
        let places = length a.spare.items in
        let left = s.blocks_left a.job_source in
        let none = new i d lt in record {
          is = all_mapped (IsBackend m world t q) share_backend ss (rw (sym out) may.backends) i d lt;
          room = room_out places 0 left ss new (rw (sym out) (λ j e below. fewer (0 + 64 * left)
              (64 * left) (slice_index_or bs j e).disk_actor.actor (omega arith)
              (may.room j e below))) i d lt;
          options_are = all_mapped (λ (b : Backend W D).
              backend_options b ≡ s.options a.job_source)
              share_backend ss (rw (sym out) may.all_have_options) i d lt;
          places_are = none.1;
          fits = omega (arith, none.0);
          fresh = rw (no_jobs places x none) (All-nil (IsNewJob world.relations));
        }

    -- the shares of backends that may run are out, and may be exchanged
    pub may_exchange_first : (shared : SharedState W) (f : Option BlockFilter)
        (handoffs : List (HandoffView (RunTerms W)))
        (clients : List (ClientView (RunTerms W) (Share W D))) (places : ℕ)
        (ss : List (Share W D)) (bs : List (Backend W D)) (a : RunProgress A)
        → BackendsMayRun m world s shared.table shared.queue f bs a.job_source
        → All (λ (h : HandoffView (RunTerms W)). AreTermsOf h.key shared f) handoffs
        → AreClientsOf handoffs clients → ClientsHold clients ss → All (IsNewShare places) ss
        → bs ≡ map share_backend ss → length a.spare.items ≡ places → 1 ≤ places
        → MayExchange m world s shared f handoffs clients a
    may_exchange_first shared f handoffs clients places ss bs a may terms clients_are hold new out
        same some = record {
          shares = ss;
          terms = terms;
          clients_are = clients_are;
          hold = hold;
          stand = new_shares_stand shared.table shared.queue f ss bs a
              (subst (λ (n : ℕ). All (IsNewShare n) ss) (sym same) new) out may;
          some = (let long = ap length out in omega (
            arith,
            may.some,
            long,
            length-map ss share_backend,
          ));
          places = omega arith;
          filter_is = may.filter_is;
        }

    -- after some time the shares that are out may be exchanged again
    pub may_exchange_on : (shared : SharedState W) (f : Option BlockFilter)
        (handoffs : List (HandoffView (RunTerms W)))
        (clients later : List (ClientView (RunTerms W) (Share W D))) (rs : List (Share W D))
        (a b : RunProgress A) (may : MayExchange m world s shared f handoffs clients a)
        → SharesAdvanced m world shared.table shared.queue s may.shares rs a b
        → AreClientsOf handoffs later → ClientsHold later rs
        → MayExchange m world s shared f handoffs later b
    may_exchange_on shared f handoffs clients later rs a b may went clients_are hold = record {
      shares = rs;
      terms = may.terms;
      clients_are = clients_are;
      hold = hold;
      stand = went.counted.stand;
      some = omega (
        arith,
        may.some,
        zip-length (λ (x y : Share W D). DiskActorAdvanced m world shared.table
            x.backend.disk_actor y.backend.disk_actor) may.shares rs went.counted.advanced,
      );
      places = omega (arith, may.places, went.counted.places_same);
      filter_is = went.counted.filter_same ∙ may.filter_is;
    }

module _ {W D A : Type 0} (m : DiskGhosts D) (world : WorldGhosts W) (s : JobSourceGhosts A W)
    (t : TableView) (q : QueueView) where
  -- no job was listed
  pub refused_ran : (f : Option BlockFilter) (bs cs : List (Backend W D)) (a b : A) (unread : ℕ)
      → BackendsMayRun m world s t q f bs a → JobsRefused s a b
      → map backend_disk_actor cs ≡ map backend_disk_actor bs → All (IsBackend m world t q) cs
      → ((how : ListOptions) → AllHaveOptions how bs → AllHaveOptions how cs)
      → IsClosedByFirst q cs → BackendsRan m world s t q bs cs a b unread unread
  refused_ran f bs cs a b unread may refused same backends options closed =
      let Went : Backend W D → Backend W D → Type 0 =
      λ x y. DiskActorAdvanced m world t x.disk_actor y.disk_actor in record {
        backends = backends;
        as_many = many_as bs cs same;
        actors_advanced = rw same (zip-map Went (DiskActorAdvanced m world t) backend_disk_actor
            backend_disk_actor (λ x y went. went) bs bs (zip-itself Went bs
            (λ i d lt. stays_put m world t _ (may.backends i d lt).disk_actor)));
        room = λ n all. all_as (λ (h : DiskActor W D). ActorHasRoom (n + 64 * s.blocks_left b)
            h.actor) bs cs same (λ i d lt. fewer (n + 64 * s.blocks_left b)
            (n + 64 * s.blocks_left a) (slice_index_or bs i d).disk_actor.actor
            (omega (arith, refused.left)) (all i d lt));
        results_bound = (let taken : results_taken_count cs ≡ results_taken_count bs =
            sum_as (λ (h : DiskActor W D). local_mark_count h.actor.known.marks) bs cs same in
            omega (arith, taken, refused.unskipped));
        more = 0;
        unread_raised = raised_none unread;
        failed_more = (let taken : failed_results_taken cs ≡ failed_results_taken bs =
            sum_as (λ (h : DiskActor W D). failed_result_count h.actor.known.marks) bs cs same in
            omega (arith, taken));
        unread_enough = omega (arith, refused.unread);
        filter_same = refused.filter_same;
        options_same = refused.options_same;
        all_have_options = options (s.options b) (rw refused.options_same may.all_have_options);
        source_follows = refused.source_follows;
        over = refused.over;
        closed = closed;
      }

  -- the shares went out, went round and came back
  pub gathered_ran : (places : ℕ) (ss rs : List (Share W D)) (bs cs : List (Backend W D))
      (a b c : RunProgress A) → ((x : A) → s.follows x x) → ((x : A) → s.gives_jobs x [] x)
      → a.phase ≡ phase.Asking → All (IsNewShare places) ss → bs ≡ map share_backend ss
      → SharesAdvanced m world t q s ss rs a b → SharesGathered m world s t q rs cs b c
      → BackendsRan m world s t q bs cs a.job_source c.job_source a.unread c.unread
  gathered_ran places ss rs bs cs a b c follows_itself giving_none asking new out round home =
      let one = round.counted in
      let first = a.job_source in
      let none : jobs_of_shares ss ≡ [] = none_out places ss new in
      let gone : Share W D → Backend W D → Type 0 =
      λ x y. DiskActorAdvanced m world t x.backend.disk_actor y.disk_actor in
      let advanced : AllZip gone ss cs =
      zip-then (λ (x y : Share W D). DiskActorAdvanced m world t x.backend.disk_actor
      y.backend.disk_actor) gone gone
      (λ x y z. goes_then m world t x.backend.disk_actor y.backend.disk_actor z.disk_actor)
      ss rs cs one.advanced home.advanced in
      let started : SourceLed world.told s a.phase first first (jobs_of_shares ss) =
      rw (asking, none) (first, follows_itself first, giving_none first) in
      let ended = home.led first (round.led first started) in
      rw out (record {
        backends = home.backends;
        as_many = omega (arith, zip-length gone ss cs advanced, length-map ss share_backend);
        actors_advanced = actors_mapped ss cs advanced;
        room = λ n all. home.room n (one.room n (room_out places n (s.blocks_left first) ss new
            all));
        results_bound = (let taken = results_out places (s.block_filter first) ss new in
            let same = ap (λ (f : Option BlockFilter). sum_by (results_of_share f) rs)
            one.filter_same in
            omega (arith, taken, same, one.results_bound, home.results_bound));
        more = one.more + home.more;
        unread_raised = home.unread_raised ∙ (ap (count_plus home.more) one.unread_raised
            ∙ raised_twice one.more home.more a.unread);
        failed_more = omega (arith, failed_out places ss, one.failed_more, home.failed_more);
        unread_enough = omega (arith, one.unread_enough, home.unread_enough);
        filter_same = home.filter_same ∙ one.filter_same;
        options_same = home.options_same ∙ one.options_same;
        all_have_options = home.all_have_options;
        source_follows = ended.1;
        over = ended.0;
        closed = home.closed;
      })
    where
      actors_mapped : (xs : List (Share W D)) (ys : List (Backend W D))
          → AllZip (λ (x : Share W D) (y : Backend W D). DiskActorAdvanced m world t
          x.backend.disk_actor y.disk_actor) xs ys
          → AllZip (DiskActorAdvanced m world t) (map backend_disk_actor (map share_backend xs))
          (map backend_disk_actor ys)
      actors_mapped [] [] all = tt
      actors_mapped (x ∷ xs) (y ∷ ys) all = (all.0, actors_mapped xs ys all.1)
      actors_mapped [] (y ∷ ys) all = absurd all
      actors_mapped (x ∷ xs) [] all = absurd all
