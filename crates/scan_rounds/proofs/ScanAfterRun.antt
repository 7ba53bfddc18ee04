-- A scan before a whole run, and after it.
use Rattle.std.proofs.Common.{◌≡◌, ℕ, ◌+◌, ◌-◌, ◌*◌, ◌≤◌, List, length, ap, ◌∙◌, subst, sym, arith}
use Rattle.std.specs.Prelude.{Option, slice_index_or}
use Rattle.page_check.specs.declared.world.World.{Ghosts as WorldGhosts}
use Rattle.aio_handle.specs.ContractViews.{TableView}
use Rattle.method_worker.specs.QueueViews.{QueueView}
use Rattle.aio_disk.specs.declared.disk.Disk.{Ghosts as DiskGhosts}
use Rattle.scan_jobs.specs.BlockFilter.{BlockFilter}
use Rattle.scan_rounds.specs.Calls.{ScanMayRunSource, ScanRanSource}
use Rattle.scan_settings.specs.ListOptions.{ListOptions}
use Rattle.scan_rounds.specs.Progress.{BackendsAreReady}
use Rattle.scan_rounds.specs.Rounds.{AllBackendsHaveRoom, AllHaveOptions, AllWorkersServed}
use Rattle.scan_rounds.specs.Rounds.{IsLeastRoom, results_taken_count}
use Rattle.scan_rounds.specs.RunLeads.{BackendsMayRun, BackendsRan}
use Rattle.scan_rounds.specs.Scans.{IsOpenedAgain, scan_options}
use Rattle.scan_rounds.specs.declared.backend.Backend.{Backend}
use Rattle.scan_jobs.specs.declared.job_source.JobSource.{Ghosts as JobSourceGhosts}
use Rattle.scan_rounds.specs.declared.scan.Scan.{Scan}
use Rattle.scan_rounds.specs.declared.worker.Worker.{Worker}
use Rattle.scan_rounds.proofs.totals.CountRaised.{raised_within}
use Rattle.scan_rounds.proofs.LeastRoom.{fewer}
use Rattle.scan_rounds.proofs.ScanAfterRounds.{scan_again, waiting_in}

module _ {W D A : Type 0} (m : DiskGhosts D) (world : WorldGhosts W) (s : JobSourceGhosts A W)
  where
    -- the backends of a scan may run, over the queue that was opened again
    pub backends_may_run : (f : Option BlockFilter) (before : Scan W D) (t : TableView)
        (r : QueueView) (bs : List (Backend W D)) (a : A) → ScanMayRunSource m world s f before a
        → t ≡ before.shared.table → r.entries ≡ before.shared.queue.entries
        → r.words ≡ before.shared.queue.words → bs ≡ before.backends.items
        → BackendsMayRun m world s t r f bs a
    backends_may_run f before t r bs a may table line words same =
        let ready = waiting_in m world before t r bs may.scan table line words same in record {
          some = ready.some;
          backends = ready.backends;
          room = λ i d lt. fewer (64 * s.blocks_left a) before.room
              (slice_index_or bs i d).disk_actor.actor may.room (ready.room.all_have_room i d lt);
          all_have_options = rw (same, may.options_are) may.scan.all_have_options;
          filter_is = may.filter_is;
        }

    module _ (f : Option BlockFilter) (before after : Scan W D) (bs : List (Backend W D)) (a b : A)
        (may : ScanMayRunSource m world s f before a) (same : bs ≡ before.backends.items)
        (ran : BackendsRan m world s after.shared.table after.shared.queue bs after.backends.items a b
        before.unread after.unread) (least : IsLeastRoom after.backends.items after.room) where
      ready_again : BackendsAreReady m world after.shared.table after.shared.queue
          after.backends.items (record { room = after.room; unread = after.unread })
      ready_again = record {
        some = (let long = ap length same in omega (arith, ran.as_many, may.scan.some, long));
        backends = ran.backends;
        room = least;
        few_unread = raised_within _ _ _ _ _ ran.unread_raised
            (rw same may.scan.few_unread) ran.failed_more;
      }

      room_left : before.room + 64 * s.blocks_left b ≤ after.room + 64 * s.blocks_left a
      room_left =
          let n : ℕ = before.room - 64 * s.blocks_left a in
          let whole : n + 64 * s.blocks_left a ≡ before.room = omega (arith, may.room) in
          let room : AllBackendsHaveRoom (n + 64 * s.blocks_left a) bs =
          rw (whole, same) may.scan.room.all_have_room in
          let left = least.greatest (n + 64 * s.blocks_left b) (ran.room n room) in omega arith

      pub source_ran : (ws : List (Worker W D)) → after.shared.table ≡ before.shared.table
          → ws ≡ before.workers.items
          → AllWorkersServed m world after.shared.table after.shared.queue ws after.workers.items
          → IsOpenedAgain before.backends.items before.shared.queue after.shared.queue
          → scan_options after ≡ scan_options before → after.opened ≡ before.opened
          → after.actors ≡ before.actors → after.disks ≡ before.disks
          → ScanRanSource m world s before after a b
      source_ran ws table workers served reopened options opened actors disks =
          let long = ap length same in
          let how : s.options b ≡ scan_options after =
          ran.options_same ∙ (may.options_are ∙ sym options) in record {
            scan = scan_again m world before after bs ws may.scan table same workers ready_again
                served ran.actors_advanced
                (subst (λ (n : ListOptions). AllHaveOptions n after.backends.items) how
                ran.all_have_options) ran.as_many opened actors disks;
            same = record {
              config = ap (λ (t : TableView). t.config) table;
              as_many = ran.as_many ∙ long;
              opened = ap (λ o. o.value.items) opened;
              options_same = options;
            };
            reopened = reopened;
            closed = ran.closed;
            source_follows = ran.source_follows;
            over = ran.over;
            options_are = ran.options_same;
            filter_is = ran.filter_same;
            room = room_left;
            more = ran.more;
            unread_raised = ran.unread_raised;
            unread_enough = ran.unread_enough;
            results_bound = (let taken = ap (λ (l : List (Backend W D)). results_taken_count l) same
                in omega (arith, ran.results_bound, taken));
          }
