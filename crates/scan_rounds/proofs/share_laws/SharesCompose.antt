-- Shares that came back and went out again: some beside others, and some after others.
use Rattle.std.proofs.Common.{◌≡◌, ℕ, ◌+◌, ◌<◌, List, [], ◌∷◌, ◌++◌, sym, ap, ◌∙◌}
use Rattle.std.proofs.Common.{arith, subst, refl, append-nil, append_assoc, ◌*◌}
use Rattle.std.specs.Prelude.{Option, sum_by, slice_index_or}
use Rattle.std.specs.List.{All}
use Rattle.std.proofs.lemmas.List.Elements.{All-cons, All-head, All-nil, All-tail}
use Rattle.std.proofs.lemmas.List.Sums.{sum_by-cons}
use mathlib.Core.Logic.{dite}
use native.Mathlib.Decide.{dec_le}
use Rattle.page_check.specs.declared.world.World.{Ghosts as WorldGhosts}
use Rattle.aio_disk.specs.Counts.{count_plus}
use Rattle.aio_handle.specs.ContractViews.{TableView}
use Rattle.method_worker.specs.QueueViews.{QueueView}
use Rattle.aio_disk.specs.declared.disk.Disk.{Ghosts as DiskGhosts}
use Rattle.scan_jobs.specs.BlockFilter.{BlockFilter}
use Rattle.scan_rounds.specs.DiskActors.{DiskActorAdvanced}
use Rattle.scan_rounds.specs.Exchanges.{ShareHasRoom, ShareStandsIn, SharesAdvanced}
use Rattle.scan_rounds.specs.Exchanges.{SharesCounted, SharesExchanged, SomeGiven, SourceLed}
use Rattle.scan_rounds.specs.Exchanges.{failed_results_of_share, jobs_of_shares, results_of_share}
use Rattle.scan_rounds.specs.Shares.{share_jobs}
use Rattle.scan_rounds.specs.declared.exchange.RunProgress.{RunProgress}
use Rattle.scan_jobs.specs.declared.job.Job.{Job}
use Rattle.scan_jobs.specs.declared.job_source.JobSource.{Ghosts as JobSourceGhosts}
use Rattle.scan_rounds.specs.declared.share.Share.{Share}
use Rattle.scan_rounds.proofs.ActorsAdvance.{goes_then, stays_put}
use Rattle.scan_rounds.proofs.totals.CountRaised.{raised_none, raised_twice}
use Rattle.scan_rounds.proofs.LeastRoom.{fewer}
use Rattle.scan_rounds.proofs.ListPairs.{zip-itself, zip-then}

module _ {W D A : Type 0} (m : DiskGhosts D) (world : WorldGhosts W) (t : TableView)
    (q : QueueView) (s : JobSourceGhosts A W) where
  abbrev pub Stand : RunProgress A → List (Share W D) → Type 0
  Stand a ss = All (ShareStandsIn m world t q s a) ss

  abbrev Went : Share W D → Share W D → Type 0
  Went x y = DiskActorAdvanced m world t x.backend.disk_actor y.backend.disk_actor

  -- a share that stands has room where fewer blocks are left
  stands_on : {ss rs : List (Share W D)} (a b : RunProgress A) (x : Share W D)
      → SharesCounted m world t q s ss rs a b → ShareStandsIn m world t q s a x
      → ShareStandsIn m world t q s b x
  stands_on a b x counted is = record {
    is = is.is;
    room = fewer (0 + 64 * (x.count + s.blocks_left b.job_source))
        (0 + 64 * (x.count + s.blocks_left a.job_source)) x.backend.disk_actor.actor
        (omega (arith, counted.left)) is.room;
    options_are = is.options_are ∙ sym counted.options_same;
    places_are = is.places_are ∙ sym counted.places_same;
    fits = omega (arith, is.fits, counted.places_same);
    fresh = is.fresh;
  }

  -- so do all
  pub all_stand_on : {xs rs : List (Share W D)} (a b : RunProgress A) (ss : List (Share W D))
      → SharesCounted m world t q s xs rs a b → Stand a ss → Stand b ss
  all_stand_on a b ss counted all i d lt = stands_on a b _ counted (all i d lt)

  -- no time
  counted_none : (ss : List (Share W D)) (a : RunProgress A) → Stand a ss
      → SharesCounted m world t q s ss ss a a
  counted_none ss a stand = record {
    stand = stand;
    places_same = refl;
    advanced = zip-itself Went ss (λ i d lt. stays_put m world t _ (stand i d lt).is.disk_actor);
    room = λ n all. all;
    left = omega arith;
    results_bound = omega arith;
    more = 0;
    unread_raised = raised_none a.unread;
    failed_more = omega arith;
    unread_enough = omega arith;
    filter_same = refl;
    options_same = refl;
  }

  pub advanced_none : (ss : List (Share W D)) (a : RunProgress A) → Stand a ss
      → SharesAdvanced m world t q s ss ss a a
  advanced_none ss a stand = record { counted = counted_none ss a stand; led = λ start is. is }

  -- no share
  pub none_exchanged : (a : RunProgress A) → SharesExchanged m world t q s [] [] a a
  none_exchanged a = record {
    counted = counted_none [] a (All-nil (ShareStandsIn m world t q s a));
    not_asking = λ is. is;
    led = λ start later is. subst (SourceLed world.told s a.phase start a.job_source)
        (sym (append-nil later)) is;
  }

  pub none_given : (a : RunProgress A) → SomeGiven {D = D} s a a [] 0
  none_given a = record {
    fewer_left = λ some. absurd (omega (arith, some));
    none = λ is. (All-nil (λ (z : Share W D). z.count ≡ 0), λ some. absurd (omega (arith, some)));
  }

  -- one share, and then the others
  pub shares_beside : (x r : Share W D) (ss rs : List (Share W D)) (a b c : RunProgress A)
      → SharesExchanged m world t q s (x ∷ []) (r ∷ []) a b
      → SharesExchanged m world t q s ss rs b c
      → SharesExchanged m world t q s (x ∷ ss) (r ∷ rs) a c
  shares_beside x r ss rs a b c one others =
      let first = one.counted in
      let later = others.counted in
      let f : Share W D → ℕ = results_of_share (s.block_filter a.job_source) in
      let k : Share W D → ℕ = failed_results_of_share in
      let Room : ℕ → RunProgress A → Share W D → Type 0 =
      λ n z y. ShareHasRoom n (s.blocks_left z.job_source) y in record {
        counted = record {
          stand = All-cons (ShareStandsIn m world t q s c) r rs
              (stands_on b c r later (All-head (ShareStandsIn m world t q s b) r [] first.stand))
              later.stand;
          places_same = later.places_same ∙ first.places_same;
          advanced = (first.advanced.0, later.advanced);
          room = λ n all. (let room = first.room n
              (All-cons (Room n a) x [] (All-head (Room n a) x ss all) (All-nil (Room n a))) in
              All-cons (Room n c) r rs
              (fewer (n + 64 * (r.count + s.blocks_left c.job_source))
              (n + 64 * (r.count + s.blocks_left b.job_source)) r.backend.disk_actor.actor
              (omega (arith, later.left)) (All-head (Room n b) r [] room))
              (later.room n (λ i d lt. fewer (n + 64 * ((slice_index_or ss i d).count
              + s.blocks_left b.job_source)) (n + 64 * ((slice_index_or ss i d).count
              + s.blocks_left a.job_source)) (slice_index_or ss i d).backend.disk_actor.actor
              (omega (arith, first.left)) (All-tail (Room n a) x ss all i d lt))));
          left = omega (arith, first.left, later.left);
          results_bound = (let same = ap (λ (g : Option BlockFilter).
              sum_by (results_of_share g) ss) first.filter_same in
              let same' = ap (λ (g : Option BlockFilter). sum_by (results_of_share g) rs)
              first.filter_same in
              omega (
                arith,
                first.results_bound,
                later.results_bound,
                same,
                same',
                sum_by-cons f x ss,
                sum_by-cons f r rs,
                sum_by-cons f x [],
                sum_by-cons f r [],
              ));
          more = first.more + later.more;
          unread_raised = later.unread_raised ∙ (ap (count_plus later.more) first.unread_raised
              ∙ raised_twice first.more later.more a.unread);
          failed_more = omega (
            arith,
            first.failed_more,
            later.failed_more,
            sum_by-cons k x ss,
            sum_by-cons k r rs,
            sum_by-cons k x [],
            sum_by-cons k r [],
          );
          unread_enough = omega (arith, first.unread_enough, later.unread_enough);
          filter_same = later.filter_same ∙ first.filter_same;
          options_same = later.options_same ∙ first.options_same;
        };
        not_asking = λ is. others.not_asking (one.not_asking is);
        led = λ start later is.
            (let own = share_jobs x in
            let mine = share_jobs r in
            let theirs = jobs_of_shares ss in
            let Led : RunProgress A → List Job → Type 0 =
            λ z js. SourceLed world.told s z.phase start z.job_source js in
            let first = one.led start (theirs ++ later)
            (subst (Led a) (append_assoc own theirs later
            ∙ ap (λ (l : List Job). l ++ (theirs ++ later)) (sym (append-nil own))) is) in
            let next = others.led start (later ++ mine) (subst (Led b)
            (ap (λ (l : List Job). theirs ++ later ++ l) (append-nil mine)
            ∙ append_assoc theirs later mine) first) in
            subst (Led c) (append_assoc later mine (jobs_of_shares rs)) next);
      }

  -- what was given to one share or to the others
  pub some_beside : (x r : Share W D) (ss rs : List (Share W D)) (a b c : RunProgress A)
      (first given blocks : ℕ) → SharesExchanged m world t q s (x ∷ []) (r ∷ []) a b
      → SharesExchanged m world t q s ss rs b c → SomeGiven s a b (r ∷ []) first
      → SomeGiven s b c rs given → (blocks ≡ 0 → (first ≡ 0) × (given ≡ 0))
      → (0 < blocks → 0 < first + given) → SomeGiven s a c (r ∷ rs) blocks
  some_beside x r ss rs a b c first given blocks one others here there none some = record {
    fewer_left = λ is. dite (dec_le 1 first)
        (λ lt. (let less = here.fewer_left lt in omega (arith, less, others.counted.left)))
        (λ no. (let sum = some is in let less = there.fewer_left (omega (arith, sum)) in
        omega (arith, less, one.counted.left)));
    none = λ is. (
      All-cons (λ (z : Share W D). z.count ≡ 0) r rs
          (All-head (λ (z : Share W D). z.count ≡ 0) r [] (here.none (none is).0).0)
          (there.none (none is).1).0,
      λ _. others.not_asking ((here.none (none is).0).1 (omega arith)),
    );
  }

  -- an exchange of all shares takes some time
  pub advanced_once : (ss rs : List (Share W D)) (a b : RunProgress A)
      → SharesExchanged m world t q s ss rs a b → SharesAdvanced m world t q s ss rs a b
  advanced_once ss rs a b went = record {
    counted = went.counted;
    led = λ start is. went.led start []
        (subst (SourceLed world.told s a.phase start a.job_source)
        (sym (append-nil (jobs_of_shares ss))) is);
  }

  pub advanced_by : (ss rs ts : List (Share W D)) (a b c : RunProgress A)
      → SharesAdvanced m world t q s ss rs a b → SharesExchanged m world t q s rs ts b c
      → SharesAdvanced m world t q s ss ts a c
  advanced_by ss rs ts a b c before after =
      let one = before.counted in
      let two = after.counted in record {
        counted = record {
          stand = two.stand;
          places_same = two.places_same ∙ one.places_same;
          advanced = zip-then Went Went Went
              (λ x y z. goes_then m world t x.backend.disk_actor y.backend.disk_actor
              z.backend.disk_actor) ss rs ts one.advanced two.advanced;
          room = λ n all. two.room n (one.room n all);
          left = omega (arith, one.left, two.left);
          results_bound = (let same = ap (λ (g : Option BlockFilter).
              sum_by (results_of_share g) ts) one.filter_same in
              let same' = ap (λ (g : Option BlockFilter). sum_by (results_of_share g) rs)
              one.filter_same in
              omega (arith, one.results_bound, two.results_bound, same, same'));
          more = one.more + two.more;
          unread_raised = two.unread_raised ∙ (ap (count_plus two.more) one.unread_raised
              ∙ raised_twice one.more two.more a.unread);
          failed_more = omega (arith, one.failed_more, two.failed_more);
          unread_enough = omega (arith, one.unread_enough, two.unread_enough);
          filter_same = two.filter_same ∙ one.filter_same;
          options_same = two.options_same ∙ one.options_same;
        };
        led = λ start is. (advanced_once rs ts b c after).led start (before.led start is);
      }
