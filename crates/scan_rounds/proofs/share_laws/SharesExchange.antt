-- A share that came back, and went out again.
use Rattle.std.proofs.Common.{◌≡◌, ◌≢◌, ℕ, ◌+◌, ◌*◌, ◌≤◌, ◌<◌, List, [], ◌∷◌, ◌++◌, length, take}
use Rattle.std.proofs.Common.{sym, ap, ◌∙◌, arith, subst, append-nil, append_assoc, length-take}
use Rattle.std.proofs.Common.{true, Bool, refl, cond, false}
use Rattle.std.proofs.Math.Nat.{min-eq_left}
use Rattle.std.specs.Prelude.{Option}
use Rattle.std.proofs.lemmas.List.Elements.{All-cons, All-head, All-nil, All-tail}
use Rattle.page_check.specs.declared.world.World.{Ghosts as WorldGhosts}
use Rattle.aio_disk.specs.Counts.{count_plus}
use Rattle.aio_handle.specs.ContractViews.{TableView}
use Rattle.method_worker.specs.QueueViews.{QueueView}
use Rattle.aio_disk.specs.declared.disk.Disk.{Ghosts as DiskGhosts}
use Rattle.scan_jobs.specs.BlockFilter.{BlockFilter}
use Rattle.scan_rounds.specs.DiskActors.{ActorHasRoom}
use Rattle.scan_rounds.specs.Exchanges.{JobsAsked, JobsTakenBack, ShareHasRoom, ShareStandsIn}
use Rattle.scan_rounds.specs.Exchanges.{ShareTakenBack, SharesExchanged, SomeGiven, SourceLed}
use Rattle.scan_rounds.specs.Exchanges.{jobs_of_shares}
use Rattle.scan_jobs.specs.Jobs.{AllJobsAnswered, count_unskipped, job_block_count}
use Rattle.scan_jobs.specs.Jobs.{unread_job_count, IsNewJob, is_unread}
use Rattle.scan_rounds.specs.Shares.{ShareMayBeListed, share_jobs}
use Rattle.scan_rounds.specs.declared.exchange.Phase.{Phase}
use Rattle.scan_rounds.specs.declared.exchange.Phase.TheVariants as phase
use Rattle.scan_rounds.specs.declared.exchange.RunProgress.{RunProgress}
use Rattle.scan_jobs.specs.declared.job.Job.{Job}
use Rattle.scan_jobs.specs.declared.job_source.JobSource.{Ghosts as JobSourceGhosts}
use Rattle.scan_rounds.specs.declared.share.Share.{Share}
use Rattle.scan_rounds.proofs.actor_jobs.JobsInSequence.{few_jobs}
use Rattle.scan_rounds.proofs.LeastRoom.{fewer, left_after}
use Rattle.std.specs.List.{All}
use Rattle.std.proofs.lemmas.List.Sums.{sum_by-cons}
use Rattle.scan_jobs.specs.declared.job.Ending.{Ending}
use Rattle.scan_rounds.proofs.ActorsAdvance.{backend_stays}

-- jobs that nobody has listed have no ending
pub none_unread : (relations : ℕ) (js : List Job) → All (IsNewJob relations) js
    → unread_job_count js ≡ 0
none_unread relations [] fresh = refl
none_unread relations (j ∷ js) fresh =
    let w : Ending → ℕ = λ e. cond (is_unread e) 1 0 in
    let first = ap w (fresh 0 j (omega arith)).no_ending in
    let later = none_unread relations js (All-tail (IsNewJob relations) j js fresh) in
    omega (arith, first, later, sum_by-cons (λ (k : Job). cond (is_unread k.ending) 1 0) j js)

module _ {W D : Type 0} (m : DiskGhosts D) (world : WorldGhosts W) (t : TableView)
    (q : QueueView) {f : Option BlockFilter} where
  -- a share that came back as it went out, since nobody wants it
  pub taken_unlisted : (wanted : Bool) (s : Share W D) → wanted ≡ false
      → ShareMayBeListed m world t q s → ShareTakenBack m world t q f wanted s s
  taken_unlisted wanted s unwanted may = record {
    spent = record {
      backend = backend_stays m world t q (64 * s.count) s.backend may.is;
      results_bound = omega arith;
      unread = (let none = none_unread world.relations (share_jobs s) may.fresh in omega arith);
      count_same = refl;
      places_same = refl;
    };
    answered = λ is. absurd (cc);
  }

-- the jobs of one share
only_jobs : {W D : Type 0} (s : Share W D) → jobs_of_shares (s ∷ []) ≡ share_jobs s
only_jobs s = append-nil (share_jobs s)

module _ {W D A : Type 0} (m : DiskGhosts D) (world : WorldGhosts W) (t : TableView)
    (q : QueueView) (s : JobSourceGhosts A W) (x y r : Share W D) (a : RunProgress A) (b : A)
    (p : Phase) (gave : List Job) (wanted : Bool) (f : Option BlockFilter)
    (stands : ShareStandsIn m world t q s a x) (taken : ShareTakenBack m world t q f wanted x y)
    (asked : JobsAsked world s a.job_source b a.phase p gave r.count)
    (backend : r.backend ≡ y.backend) (items : r.jobs.items ≡ gave) where
  abbrev gives : List Job
  gives = take r.count gave

  few : r.count ≤ job_block_count gives
  few =
      let jobs = few_jobs world.relations gives asked.fresh in
      let long = length-take r.count gave ∙ min-eq_left {n = r.count} {m = length gave} asked.few in
      omega arith

  left_room : (n : ℕ) → ShareHasRoom n (s.blocks_left a.job_source) x
      → ActorHasRoom (n + 64 * s.blocks_left a.job_source) r.backend.disk_actor.actor
  left_room n room =
      let went = taken.spent.backend in
      let old = x.backend.disk_actor.actor in
      let left = s.blocks_left a.job_source in
      rw backend (left_after (64 * x.count) (n + 64 * left) old y.backend.disk_actor.actor
      went.advanced.same stands.is.backend
      (fewer (64 * x.count + (n + 64 * left)) (n + 64 * (x.count + left)) old (omega arith) room)
      went.lives_bound)

  -- the share may go out again
  pub may_go_out : ShareMayBeListed m world t q r
  may_go_out = record {
    is = rw backend taken.spent.backend.is;
    room = fewer (64 * r.count) (0 + 64 * s.blocks_left a.job_source) r.backend.disk_actor.actor
        (omega (arith, few, asked.kept.left)) (left_room 0 stands.room);
    fits = omega (arith, asked.few, ap length items);
    fresh = rw items asked.fresh;
  }

  module _ (c : RunProgress A) (came : List Job)
      (finished : JobsTakenBack world.told s b c.job_source p c.phase came)
      (many : length gave ≡ length a.spare.items)
      (many_came : length c.spare.items ≡ length a.spare.items) (came_is : came ≡ share_jobs y)
      (filter : s.block_filter a.job_source ≡ f)
      (wants : a.phase ≢ phase.Stopped → wanted ≡ true)
      (counted : c.unread ≡ count_plus (unread_job_count came) a.unread) where
    fewer_left : 0 < r.count → s.blocks_left c.job_source < s.blocks_left a.job_source
    fewer_left some = omega (arith, few, asked.kept.left, finished.kept.left)

    has_room : (n : ℕ) → ShareHasRoom n (s.blocks_left a.job_source) x
        → ShareHasRoom n (s.blocks_left c.job_source) r
    has_room n room = fewer (n + 64 * (r.count + s.blocks_left c.job_source))
        (n + 64 * s.blocks_left a.job_source) r.backend.disk_actor.actor
        (omega (arith, few, asked.kept.left, finished.kept.left)) (left_room n room)

    stays : ShareStandsIn m world t q s c r
    stays = record {
      is = rw backend taken.spent.backend.is;
      room = has_room 0 stands.room;
      options_are = rw backend (taken.spent.backend.options_same ∙ (stands.options_are
          ∙ (sym asked.kept.options_same ∙ sym finished.kept.options_same)));
      places_are = ap length items ∙ (many ∙ sym many_came);
      fits = omega (arith, asked.few, many, many_came);
      fresh = rw items asked.fresh;
    }

    answered : p ≢ phase.Stopped → AllJobsAnswered (s.block_filter b) (s.options b) world.told
        (share_jobs x) came
    answered goes =
        let is = taken.answered (wants (λ stopped. goes (asked.stopped stopped))) in
        rw (
          came_is,
          asked.kept.filter_same ∙ filter,
          asked.kept.options_same ∙ sym stands.options_are,
        ) is

    led : (start : A) (later : List Job)
        → SourceLed world.told s a.phase start a.job_source (jobs_of_shares (x ∷ []) ++ later)
        → SourceLed world.told s c.phase start c.job_source (later ++ jobs_of_shares (r ∷ []))
    led start later is =
        let first = subst (λ js. SourceLed world.told s a.phase start a.job_source (js ++ later))
        (only_jobs x) is in
        let next = subst (λ js. SourceLed world.told s p start b js)
        (append_assoc (share_jobs x) later gives)
        (asked.led start (share_jobs x ++ later) first) in
        let last = finished.led start (share_jobs x) (later ++ gives) next answered in
        let same : gives ≡ jobs_of_shares (r ∷ []) =
        ap (take r.count) (sym items) ∙ sym (only_jobs r) in
        subst (λ js. SourceLed world.told s c.phase start c.job_source (later ++ js)) same last

    pub one_exchanged : SharesExchanged m world t q s (x ∷ []) (r ∷ []) a c
    one_exchanged = record {
      counted = record {
        stand = All-cons (ShareStandsIn m world t q s c) r [] stays
            (All-nil (ShareStandsIn m world t q s c));
        places_same = many_came;
        advanced = (rw backend taken.spent.backend.advanced, tt);
        room = λ n all. All-cons (ShareHasRoom n (s.blocks_left c.job_source)) r []
            (has_room n (All-head (ShareHasRoom n (s.blocks_left a.job_source)) x [] all))
            (All-nil (ShareHasRoom n (s.blocks_left c.job_source)));
        left = omega (arith, asked.kept.left, finished.kept.left);
        results_bound = (let same = ap (λ (g : Option BlockFilter). count_unskipped g
            (share_jobs x)) filter in
            rw (backend, items) (omega (
              arith,
              taken.spent.results_bound,
              asked.kept.unskipped,
              finished.kept.unskipped,
              same,
            )));
        more = unread_job_count came;
        unread_raised = counted;
        failed_more = rw (backend, came_is) (omega (arith, taken.spent.unread));
        unread_enough = omega (arith, asked.kept.unread_more, finished.kept.unread_more);
        filter_same = finished.kept.filter_same ∙ asked.kept.filter_same;
        options_same = finished.kept.options_same ∙ asked.kept.options_same;
      };
      not_asking = λ is. finished.not_asking (asked.not_asking is);
      led = led;
    }

    pub one_given : (blocks : ℕ) → (blocks ≡ 0 → r.count ≡ 0) → (0 < blocks → 0 < r.count)
        → SomeGiven s a c (r ∷ []) blocks
    one_given blocks none some = record {
      fewer_left = λ is. fewer_left (some is);
      none = λ is. (
        All-cons (λ (z : Share W D). z.count ≡ 0) r [] (none is)
            (All-nil (λ (z : Share W D). z.count ≡ 0)),
        λ _. finished.not_asking (asked.none (none is)),
      );
    }
