-- A scan whose first backend has read a map.
use Rattle.std.proofs.Common.{◌≡◌, ℕ, ◌+◌, ◌≤◌, Bool, true, false, cond, List, [], ◌∷◌, length}
use Rattle.std.proofs.Common.{refl, ap, subst, arith}
use Rattle.std.specs.Prelude.{None, slice_index_or, slice_set}
use Rattle.std.specs.List.{All, AllZip}
use Rattle.std.proofs.lemmas.List.Elements.{All-tail}
use Rattle.std.proofs.lemmas.List.Sums.{sum_by-cons}
use Rattle.page_check.specs.declared.world.World.{Ghosts as WorldGhosts}
use Rattle.page_check.specs.SynchronousAnswer.{reading_of}
use Rattle.aio_word.specs.Tokens.{failed_result_count}
use Rattle.aio_handle.specs.ContractViews.{TableView}
use Rattle.method_worker.specs.QueueViews.{QueueView}
use Rattle.heap_scan.specs.Job.{job_entries}
use Rattle.read_stream.specs.FailedReads.{MayBeUnread}
use Rattle.read_stream.specs.ActorProgress.{local_mark_count}
use Rattle.vis_map.specs.Bits.{Map}
use Rattle.aio_disk.specs.declared.disk.Disk.{Ghosts as DiskGhosts}
use Rattle.scan_rounds.specs.DiskActors.{BackendAdvanced, BackendReadMap, IsBackend, IsWorker}
use Rattle.scan_jobs.specs.StreamBlocks.{entries_of_blocks, map_blocks}
use Rattle.scan_jobs.specs.Jobs.{is_unread, answered_ending, unread_ending_count}
use Rattle.scan_settings.specs.ListOptions.{ListOptions}
use Rattle.scan_rounds.specs.Rounds.{AllHaveOptions, AllWorkersServed, FirstBackendReadMap}
use Rattle.scan_rounds.specs.Rounds.{MapPagesConsumed, failed_results_taken, results_taken_count}
use Rattle.scan_jobs.specs.ConsumedPages.{MapHasPages, PagesConsumed}
use Rattle.scan_jobs.specs.declared.job.Ending.{Ending}
use Rattle.scan_rounds.specs.declared.backend.Backend.{Backend}
use Rattle.scan_rounds.specs.declared.worker.Worker.{Worker}
use Rattle.scan_rounds.proofs.ActorsAdvance.{backend_stays, stays_put}
use Rattle.scan_rounds.proofs.ListPairs.{zip-itself}
use Rattle.scan_jobs.proofs.UnskippedCount.{few_in_range}
use Rattle.read_stream.proofs.UnreadCauses.{results_more}
use Rattle.scan_rounds.proofs.actor_jobs.UnreadLeavesResult.{unread_after}

-- workers that did nothing
pub workers_stay : {W D : Type 0} (m : DiskGhosts D) (world : WorldGhosts W)
    (t : TableView) (q : QueueView) (ws : List (Worker W D))
    → All (IsWorker m world t q) ws → AllWorkersServed m world t q ws ws
workers_stay m world t q ws all = record {
  as_many = refl;
  each = λ i d lt. record {
    is = all i d lt;
    advanced = stays_put m world t (slice_index_or ws i d).disk_actor
        (all i d lt).disk_actor;
  };
}

module _ {W D : Type 0} (m : DiskGhosts D) (world : WorldGhosts W) (t : TableView)
    (q : QueueView) where
  -- the first of some backends has read a map
  pub first_read : (bs : List (Backend W D)) (b c : Backend W D) (relation pages : ℕ)
      (found : Map) (warnings : List ℕ) (end : Ending) → 1 ≤ length bs
      → b ≡ slice_index_or bs 0 b
      → BackendReadMap m world t q b c relation pages found warnings end
      → FirstBackendReadMap m world t q bs (slice_set bs 0 c) relation pages found
      warnings end
  first_read [] b c relation pages found warnings end some is read = absurd (omega arith)
  first_read (a ∷ bs) b c relation pages found warnings end some is read = record {
    before = a;
    after = c;
    others = bs;
    backends_were = refl;
    backends_are = refl;
    read = subst (λ (x : Backend W D). BackendReadMap m world t q x c relation pages
        found warnings end) is read;
  }

  module _ (bs cs : List (Backend W D)) (relation pages : ℕ) (found : Map) (warnings : List ℕ)
      (end : Ending)
      (read : FirstBackendReadMap m world t q bs cs relation pages found warnings end)
    where
      -- the first backend went on, and the others stay
      pub backends_read : All (IsBackend m world t q) bs
          → AllZip (BackendAdvanced m world t q 65) bs cs
      backends_read all = rw (read.backends_were, read.backends_are) (
        record {
          is = read.read.is;
          advanced = read.read.read.advanced;
          lives_bound = λ h. (let lived = read.read.read.lives_bound h in let few = read.read.few in
              omega arith);
          options_same = read.read.options_same;
        },
        zip-itself (BackendAdvanced m world t q 65) read.others
            (λ i d lt. backend_stays m world t q 65 _ (others_stand i d lt)),
      )
        where
          others_stand : All (IsBackend m world t q) read.others
          others_stand = All-tail (IsBackend m world t q) read.before read.others
              (subst (All (IsBackend m world t q)) read.backends_were all)

      pub results_bound : results_taken_count cs ≤ results_taken_count bs + pages
      results_bound = rw (read.backends_were, read.backends_are)
          (let f : Backend W D → ℕ = λ b. local_mark_count b.disk_actor.actor.known.marks in
          omega (
            arith,
            read.read.read.results_bound,
            few_in_range None relation 0 pages,
            sum_by-cons f read.before read.others,
            sum_by-cons f read.after read.others,
          ))

      unread_or : (u : Bool) → is_unread end ≡ u
          → failed_result_count read.before.disk_actor.actor.known.marks + cond u 1 0
          ≤ failed_result_count read.after.disk_actor.actor.known.marks
      unread_or true is =
          let given = read.read.read.given in
          unread_after (reading_of read.before.desk.settings.rules world.told) _ _
          (entries_of_blocks (map_blocks relation pages)) given.pages end given.answers is
      unread_or false is =
          let went = read.read.read.advanced in
          let more = results_more read.before.disk_actor.actor.known.marks went.more in
          let same = ap failed_result_count went.marks in omega arith

      pub results_read : failed_results_taken bs + unread_ending_count end ≤ failed_results_taken cs
      results_read = rw (read.backends_were, read.backends_are)
          (let f : Backend W D → ℕ = λ b. failed_result_count b.disk_actor.actor.known.marks in
          omega (
            arith,
            unread_or (is_unread end) refl,
            sum_by-cons f read.before read.others,
            sum_by-cons f read.after read.others,
          ))

      -- and the map has its pages
      pub map_read : (how : ListOptions) → AllHaveOptions how bs
          → MapPagesConsumed how world.told bs cs relation pages found warnings end
      map_read how all = rw (read.backends_were, read.backends_are)
          (λ d. subst (λ (n : ListOptions). PagesConsumed (MapHasPages found warnings) n.rules
          world.told
          (MayBeUnread read.before.disk_actor.actor read.after.disk_actor.actor.known)
          (job_entries relation 0 pages) (answered_ending end))
          (subst (AllHaveOptions how) read.backends_were all 0 read.before (omega arith))
          read.read.read.given)
