-- What the end of the table says of the disks.
use Rattle.std.proofs.Common.{◌≡◌, ℕ, suc, ◌+◌, ◌<◌, ◌≤◌, cond, nat_lt, List, [], ◌∷◌, ◌++◌, map}
use Rattle.std.proofs.Common.{drop, length, get_or, sum_by, Some, refl, sym, ap, ◌∙◌, subst}
use Rattle.std.proofs.Common.{inl, inr, ⊎_elim, arith}
use Rattle.std.proofs.lemmas.Bool.Decides.{nat_tests}
use Rattle.std.proofs.lemmas.List.{length-map, map-append}
use Rattle.std.proofs.lemmas.List.Elements.{All-append, All-map, All-drop}
use Rattle.std.proofs.Math.Seq.{drop-append_seam}
use Rattle.std.proofs.lemmas.List.Sums.{sum_by-cons, sum_by-append}
use Rattle.std.specs.List.{All}
use Rattle.page_check.specs.declared.world.World.{Ghosts as WorldGhosts}
use Rattle.aio_word.specs.declared.Config.{Config}
use Rattle.aio_word.specs.declared.Known.{Known}
use Rattle.aio_word.specs.Stands.{IsIn}
use Rattle.aio_word.specs.Tokens.{claimed_mark_count, io_mark_count, failed_mark_count}
use Rattle.aio_word.specs.Tokens.{failed_result_count}
use Rattle.aio_word.proofs.ListWithMark.{get_or-in}
use Rattle.aio_word.proofs.ReplacedElement.{in-right}
use Rattle.aio_handle.specs.EndStates.{HasNoOwnerTokens, NoneHasOwnerTokens, AreTotals, TotalsView}
use Rattle.aio_handle.specs.Execution.{last_count}
use Rattle.aio_handle.specs.ContractViews.{TableView, ActorView, IsActorOf, actor_known}
use Rattle.aio_handle.proofs.FailedResultsHaveExecutions.{failed_results_few}
use Rattle.aio_handle.proofs.IoMarksMatchClaims.{balance}
use Rattle.read_stream.specs.ActorProgress.{local_mark_count}
use Rattle.aio_disk.specs.declared.disk.Disk.{Ghosts as DiskGhosts}
use Rattle.scan_rounds.specs.DiskActors.{IsDiskActor}
use Rattle.scan_rounds.specs.Rounds.{backend_disk_actor, worker_disk_actor, results_taken_count}
use Rattle.scan_rounds.specs.Scans.{IsScan, IsFinished, HasDisk, actor_of, disk_of}
use Rattle.scan_rounds.specs.Scans.{scan_disk_actors, known_lists, opened_disks}
use Rattle.scan_rounds.specs.declared.disk_actor.DiskActor.{DiskActor}
use Rattle.scan_rounds.specs.declared.scan.Scan.{Scan}
use Rattle.scan_rounds.specs.declared.worker.Worker.{Worker}
use Rattle.scan_rounds.proofs.totals.DisksCountForActors.{CountedBy, all-counted, counted-lengths}
use Rattle.scan_rounds.proofs.totals.DisksCountForActors.{counted-tell, counted-reads}
use Rattle.scan_rounds.proofs.totals.DisksCountForActors.{counted-faults}
use Rattle.scan_rounds.proofs.totals.DisksCountForActors.{counted-at, counted-drop}
use Rattle.scan_jobs.proofs.Sums.{sum-mapped, sum-none}
use Rattle.scan_rounds.proofs.totals.ResultsMatchExecutions.{executed, executed_as_taken}
use Rattle.scan_rounds.proofs.totals.ResultsMatchExecutions.{runners_take_none}

in-mapped : {A B : Type 0} (f : A → B) (xs : List A) (x : A) → IsIn x xs → IsIn (f x) (map f xs)
in-mapped f [] x i = absurd i
in-mapped f (y ∷ xs) x i = ⊎_elim (λ e. inl (ap f e)) (λ j. inr (in-mapped f xs x j)) i

sum-equal : {A : Type 0} (f g : A → ℕ) (xs : List A) → All (λ x. f x ≡ g x) xs
    → sum_by f xs ≡ sum_by g xs
sum-equal f g [] same = refl
sum-equal f g (x ∷ xs) same =
    let rest = sum-equal f g xs (λ k d lt. same (suc k) d (omega arith)) in
    let here : f x ≡ g x = same 0 x (omega arith) in
    omega (arith, sum_by-cons f x xs, sum_by-cons g x xs)

below-none : (n top x : ℕ) → n < top → cond (nat_lt n top) 0 x ≡ 0
below-none n top x lt = grind (arith, nat_tests)

above-same : (n top x : ℕ) → top ≤ n → cond (nat_lt n top) 0 x ≡ x
above-same n top x le = grind (arith, nat_tests)

module _ {W D : Type 0} where
  sum-lists : (f : Known → ℕ) (hs : List (DiskActor W D))
      → sum_by f (known_lists hs) ≡ sum_by (λ (h : DiskActor W D). f h.actor.known) hs
  sum-lists f hs = sum-mapped f actor_known (map actor_of hs)
      ∙ sum-mapped (λ (a : ActorView). f a.known) actor_of hs

  sum-scan : (f : Known → ℕ) (s : Scan W D) → sum_by f (known_lists (scan_disk_actors s))
      ≡ sum_by (λ b. f b.disk_actor.actor.known) s.backends.items
      + sum_by (λ w. f w.disk_actor.actor.known) s.workers.items
  sum-scan f s =
      let g : DiskActor W D → ℕ = λ h. f h.actor.known in
      let bs : List (DiskActor W D) = map backend_disk_actor s.backends.items in
      let ws : List (DiskActor W D) = map worker_disk_actor s.workers.items in
      omega (
        arith,
        sum-lists f (scan_disk_actors s),
        sum_by-append g bs ws,
        sum-mapped g backend_disk_actor s.backends.items,
        sum-mapped g worker_disk_actor s.workers.items,
      )

  -- what was put down, the backends' first
  pub push_all_parts : {X : Type 0} (f : DiskActor W D → X) (s : Scan W D) (start between end : List X)
      → start ≡ [] → between ≡ start ++ map f (map backend_disk_actor s.backends.items)
      → end ≡ between ++ map f (map worker_disk_actor s.workers.items)
      → end ≡ map f (scan_disk_actors s)
  push_all_parts f s start between end none first second =
      let bs = map backend_disk_actor s.backends.items in
      let ws = map worker_disk_actor s.workers.items in
      second ∙ (ap (λ (l : List _). l ++ map f ws)
      (first ∙ ap (λ (l : List _). l ++ map f bs) none) ∙ sym (map-append f bs ws))

module _ {W D : Type 0} (m : DiskGhosts D) (world : WorldGhosts W)
    (t : TableView) where
  quiet-all : (hs : List (DiskActor W D)) → All (IsDiskActor m world t) hs
      → NoneHasOwnerTokens (known_lists hs)
  quiet-all [] stand p i = absurd i
  quiet-all (h ∷ hs) stand p i = ⊎_elim
      (λ e. subst HasNoOwnerTokens e (stand 0 h (omega arith)).rest)
      (λ j. quiet-all hs (λ k d lt. stand (suc k) d (omega arith)) p j) i

module _ {W D : Type 0} (m : DiskGhosts D) (world : WorldGhosts W) (s : Scan W D)
    (scan : IsScan m world s) where
  pub backends_held : All (λ b. HasDisk b.disk_actor) s.backends.items
  backends_held k d lt = let is = (scan.all_backends k d lt).disk_actor in (is.disk, is.held)

  pub workers_held : All (λ w. HasDisk w.disk_actor) s.workers.items
  workers_held k d lt = let is = (scan.all_workers k d lt).disk_actor in (is.disk, is.held)

  all-stand : All (IsDiskActor m world s.shared.table) (scan_disk_actors s)
  all-stand =
      let P : DiskActor W D → Type 0 = IsDiskActor m world s.shared.table in
      All-append P (map backend_disk_actor s.backends.items) (map worker_disk_actor s.workers.items)
      (All-map P backend_disk_actor s.backends.items
      (λ k d lt. (scan.all_backends k d lt).disk_actor))
      (All-map P worker_disk_actor s.workers.items (λ k d lt.
      (scan.all_workers k d lt).disk_actor))

  pub of_table : All (IsActorOf s.shared.table) (map actor_of (scan_disk_actors s))
  of_table = All-map (IsActorOf s.shared.table) actor_of (scan_disk_actors s)
      (λ k d lt. (all-stand k d lt).of)

  pub are_quiet : NoneHasOwnerTokens (known_lists (scan_disk_actors s))
  are_quiet = quiet-all m world s.shared.table (scan_disk_actors s) all-stand

  abbrev config : Config
  config = s.shared.table.config

  abbrev parts : List Known
  parts = known_lists (scan_disk_actors s)

  module _ (totals : TotalsView) (are : AreTotals config parts totals) where
    all-executed : totals.incarnations ≡ sum_by (λ (p : Known). io_mark_count p.marks) parts
    all-executed =
        let e = executed config parts are.end_state in
        omega (arith, are.sum, are.by_backends_are, are.by_runners_are)

    -- a worker's list is one of the parts, and it is a runner
    worker-at : (k : ℕ) (w : Worker W D) → k < length s.workers.items
        → (IsIn (get_or s.workers.items k w).disk_actor.actor.known parts)
        × (config.backends ≤ (get_or s.workers.items k w).disk_actor.actor.known.number)
    worker-at k w lt =
        let it = get_or s.workers.items k w in
        let is = scan.all_workers k w lt in
        let same : it.disk_actor.actor.known.config ≡ config = is.disk_actor.of.1 in (
          in-mapped actor_known (map actor_of (scan_disk_actors s)) it.disk_actor.actor
              (in-mapped actor_of (scan_disk_actors s) it.disk_actor
              (in-right it.disk_actor (map backend_disk_actor s.backends.items)
              (map worker_disk_actor s.workers.items)
              (in-mapped worker_disk_actor s.workers.items it
              (get_or-in s.workers.items k w lt)))),
          subst (λ (c : Config). c.backends ≤ it.disk_actor.actor.known.number) same is.worker,
        )

    workers-took-none : All (λ w. local_mark_count w.disk_actor.actor.known.marks ≡ 0)
        s.workers.items
    workers-took-none k w lt =
        let (within, runner) = worker-at k w lt in
        runners_take_none config (get_or s.workers.items k w).disk_actor.actor.known
        (are.end_state.words_match_lists.each_list _ within) runner

    all-taken : totals.incarnations ≡ results_taken_count s.backends.items
    all-taken =
        let same = executed_as_taken config parts are.end_state in
        let sum = sum-scan (λ (p : Known). local_mark_count p.marks) s in
        let none = sum-none (λ w. local_mark_count w.disk_actor.actor.known.marks) s.workers.items
        workers-took-none in
        let all = all-executed in
        omega arith

    few-results : s.unread ≤ sum_by (λ (p : Known). failed_mark_count p.marks) parts
    few-results =
        let law = failed_results_few config are.end_state.words parts are.end_state.words_match_lists in
        let sum = sum-scan (λ (p : Known). failed_result_count p.marks) s in
        let few = scan.few_unread in
        omega arith

    abbrev claims : Known → ℕ
    claims p = cond (nat_lt p.number config.backends) 0 (claimed_mark_count p.marks)

    backends-claim-none : All (λ b. claims b.disk_actor.actor.known ≡ 0) s.backends.items
    backends-claim-none k b lt =
        let it = get_or s.backends.items k b in
        let is = scan.all_backends k b lt in
        let same : it.disk_actor.actor.known.config ≡ config = is.disk_actor.of.1 in
        below-none it.disk_actor.actor.known.number config.backends
        (claimed_mark_count it.disk_actor.actor.known.marks)
        (subst (λ (c : Config). it.disk_actor.actor.known.number < c.backends) same is.backend)

    workers-claim-executed : All (λ w. claims w.disk_actor.actor.known
        ≡ io_mark_count w.disk_actor.actor.known.marks) s.workers.items
    workers-claim-executed k w lt =
        let p = (get_or s.workers.items k w).disk_actor.actor.known in
        let (within, runner) = worker-at k w lt in
        above-same p.number config.backends (claimed_mark_count p.marks) runner
        ∙ sym (balance config parts are.end_state p within)

    -- runners have claimed what the workers have executed
    runners-executed : totals.by_runners
        ≡ sum_by (λ w. io_mark_count w.disk_actor.actor.known.marks) s.workers.items
    runners-executed =
        let sum = sum-scan claims s in
        let none = sum-none (λ b. claims b.disk_actor.actor.known) s.backends.items
        backends-claim-none in
        let same = sum-equal (λ w. claims w.disk_actor.actor.known)
        (λ w. io_mark_count w.disk_actor.actor.known.marks) s.workers.items
        workers-claim-executed in
        omega (arith, are.by_runners_are)

    no-workers-none : config.runners ≡ 0 → totals.by_runners ≡ 0
    no-workers-none alone =
        runners-executed ∙ sum-none (λ w. io_mark_count w.disk_actor.actor.known.marks)
        s.workers.items (λ k w lt. absurd (omega (arith, scan.workers_are)))

    -- the actors behind the backends are the workers
    workers-last : drop config.backends (scan_disk_actors s) ≡ map worker_disk_actor s.workers.items
    workers-last =
        let bs : List (DiskActor W D) = map backend_disk_actor s.backends.items in
        let ws : List (DiskActor W D) = map worker_disk_actor s.workers.items in
        let many : config.backends ≡ length bs =
        scan.backends_are ∙ sym (length-map s.backends.items backend_disk_actor) in
        ap (λ (n : ℕ). drop n (bs ++ ws)) many ∙ drop-append_seam bs ws

    worker-reads : (disks : List D) → CountedBy m world (opened_disks s) disks
        (scan_disk_actors s) → All (λ (d : D). m.reads d < last_count) disks
        → totals.by_runners + sum_by m.reads (drop config.backends (opened_disks s))
        ≡ sum_by m.reads (drop config.backends disks)
    worker-reads disks counted below =
        let rest = counted-reads m world _ _ _
        (counted-drop m world config.backends _ _ _ counted)
        (All-drop (λ (d : D). m.reads d < last_count) config.backends disks below) in
        let f : DiskActor W D → ℕ = λ h. io_mark_count h.actor.known.marks in
        let last = ap (sum_by f) workers-last
        ∙ sum-mapped f worker_disk_actor s.workers.items in
        omega (arith, rest, last, runners-executed)

    pub finished : (disks : List D) → map Some disks ≡ map disk_of (scan_disk_actors s)
        → IsFinished m world config s.unread (results_taken_count s.backends.items)
        (opened_disks s) disks parts totals
    finished disks held =
        let counters_are = all-counted m world s.shared.table (opened_disks s) disks
        (scan_disk_actors s) held scan.counters_are all-stand in
        let (longs, actors) = counted-lengths m world _ _ _ counters_are in
        let at = counted-at m world _ _ _ counters_are in
        let ios = sum-lists (λ (p : Known). io_mark_count p.marks) (scan_disk_actors s) in
        let failures = sum-lists (λ (p : Known). failed_mark_count p.marks) (scan_disk_actors s) in
        let all = all-executed in
        let few = few-results in
        record {
          totals_are = are;
          parts_are = length-map (map actor_of (scan_disk_actors s)) actor_known
              ∙ (length-map (scan_disk_actors s) actor_of ∙ actors);
          disks_are = longs;
          tell = counted-tell m world _ _ _ counters_are;
          each_read = λ below.
              let sum = counted-reads m world _ _ _ counters_are below in omega arith;
          each_worker_read = worker-reads disks counters_are;
          each_taken = all-taken;
          each_own = λ i p d lt below.
              (let here = (at i p d lt).read_each below in omega arith);
          each_fault = λ i p d lt below.
              (let here = (at i p d lt).fault_each below in omega arith);
          each_unread = λ below.
              let sum = counted-faults m world _ _ _ counters_are below in
              omega arith;
          no_workers = no-workers-none;
        }
