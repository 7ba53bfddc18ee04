-- A scan after further rounds.
use Rattle.std.proofs.Common.{◌≡◌, List, length, map, None, sym, ap, ◌∙◌, arith, subst}
use Rattle.std.specs.Prelude.{Option, Some, IfSome, slice_index_or}
use Rattle.std.specs.List.{All, AllZip}
use Rattle.std.proofs.lemmas.List.{get_or_default}
use Rattle.page_check.specs.declared.world.World.{Ghosts as WorldGhosts}
use Rattle.aio_handle.specs.ContractViews.{TableView}
use Rattle.method_worker.specs.QueueViews.{QueueView, IsSeatOf, SeatView}
use Rattle.aio_disk.specs.declared.disk.Disk.{Ghosts as DiskGhosts}
use Rattle.scan_rounds.specs.DiskActors.{IsBackend, IsWorker, DiskActorAdvanced, WorkerMayServe}
use Rattle.scan_rounds.specs.Progress.{BackendsAreReady}
use Rattle.scan_rounds.specs.Rings.{IsRingOf}
use Rattle.scan_rounds.specs.Rounds.{AllHaveOptions, AllWorkersServed, backend_disk_actor}
use Rattle.scan_rounds.specs.Rounds.{worker_disk_actor}
use Rattle.scan_rounds.specs.Scans.{IsScan, DiskCountersFollowMarks, scan_options}
use Rattle.scan_rounds.specs.declared.disk_actor.DiskActor.{DiskActor}
use Rattle.scan_rounds.specs.declared.backend.Backend.{Backend}
use Rattle.scan_rounds.specs.declared.ring.IdleRingState.{IdleRingState}
use Rattle.scan_rounds.specs.declared.worker.Worker.{Worker}
use Rattle.scan_rounds.specs.declared.scan.Scan.{Scan}
use Rattle.scan_rounds.proofs.ActorsAdvance.{pays_then, some_same}
use Rattle.scan_rounds.proofs.ListPairs.{zip-append, zip-each, zip-map, zip-then}
use Rattle.scan_rounds.proofs.WorkersServe.{may_serve}

seat_again : (q r : QueueView) (s : Option SeatView) → r.entries ≡ q.entries → r.words ≡ q.words
    → IfSome s (IsSeatOf q) → IfSome s (IsSeatOf r)
seat_again q r None line words is = is
seat_again q r (Some s) line words is = (is.0 ∙ sym line, is.1 ∙ sym words)

ring_again : {W : Type 0} (q r : QueueView) (o : Option (IdleRingState W)) → r.entries ≡ q.entries
    → r.words ≡ q.words → IfSome o (IsRingOf q) → IfSome o (IsRingOf r)
ring_again q r None line words is = is
ring_again q r (Some o) line words is = ((is.0.0 ∙ sym line, is.0.1 ∙ sym words), is.1)

module _ {W D : Type 0} (m : DiskGhosts D) (world : WorldGhosts W) (t : TableView)
    (q r : QueueView) (line : r.entries ≡ q.entries) (words : r.words ≡ q.words) where
  backend_again : (b : Backend W D) → IsBackend m world t q b
      → IsBackend m world t r b
  backend_again b is = record {
    disk_actor = is.disk_actor;
    backend = is.backend;
    desk = is.desk;
    seat = seat_again q r b.seat line words is.seat;
    has_seat = is.has_seat;
    ring = ring_again q r b.ring line words is.ring;
  }

  worker_again : (w : Worker W D) → IsWorker m world t q w
      → IsWorker m world t r w
  worker_again w is = record {
    disk_actor = is.disk_actor;
    worker = is.worker;
    seat = (is.seat.0 ∙ sym line, is.seat.1 ∙ sym words);
  }

  pub backends_again : (bs : List (Backend W D)) → All (IsBackend m world t q) bs
      → All (IsBackend m world t r) bs
  backends_again bs all i d lt = backend_again (slice_index_or bs i d) (all i d lt)

  pub workers_again : (ws : List (Worker W D)) → All (IsWorker m world t q) ws
      → All (WorkerMayServe m world t r) ws
  workers_again ws all i d lt =
      may_serve m world t r (slice_index_or ws i d)
      (worker_again (slice_index_or ws i d) (all i d lt))

-- what a disk has counted, once its actor has gone on
paid_on : {W D : Type 0} (m : DiskGhosts D) (world : WorldGhosts W) (t : TableView)
    (o : D) (h k : DiskActor W D) → DiskCountersFollowMarks m o h
    → DiskActorAdvanced m world t h k → DiskCountersFollowMarks m o k
paid_on m world t o h k counters_are advanced =
    let same : counters_are.disk ≡ advanced.before =
    some_same h.disk counters_are.disk advanced.before counters_are.held advanced.had_disk in
    record {
      disk = advanced.after;
      held = advanced.has_disk;
      counters_follow = rw advanced.marks (pays_then _ _ _ _ _ _ h.actor.known.marks advanced.more
          counters_are.counters_follow (rw same advanced.counters_follow));
    }

module _ {W D : Type 0} (m : DiskGhosts D) (world : WorldGhosts W) where
  pub waiting_in : (s : Scan W D) (t : TableView) (r : QueueView) (bs : List (Backend W D))
      → IsScan m world s → t ≡ s.shared.table → r.entries ≡ s.shared.queue.entries
      → r.words ≡ s.shared.queue.words → bs ≡ s.backends.items
      → BackendsAreReady m world t r bs (record { room = s.room; unread = s.unread })
  waiting_in s t r bs is table line words same = rw (table, same) (record {
    some = is.some;
    backends = backends_again m world s.shared.table s.shared.queue r line words
        s.backends.items is.all_backends;
    room = is.room;
    few_unread = is.few_unread;
  })

  pub serving_in : (s : Scan W D) (t : TableView) (r : QueueView) (ws : List (Worker W D))
      → IsScan m world s → t ≡ s.shared.table → r.entries ≡ s.shared.queue.entries
      → r.words ≡ s.shared.queue.words → ws ≡ s.workers.items
      → All (WorkerMayServe m world t r) ws
  serving_in s t r ws is table line words same = rw (table, same)
      (workers_again m world s.shared.table s.shared.queue r line words s.workers.items
      is.all_workers)

  workers_went : (t : TableView) (q : QueueView) (ws vs : List (Worker W D))
      → AllWorkersServed m world t q ws vs → AllZip (DiskActorAdvanced m world t)
      (map worker_disk_actor ws) (map worker_disk_actor vs)
  workers_went t q ws vs served =
      let Went : Worker W D → Worker W D → Type 0 =
      λ w v. DiskActorAdvanced m world t w.disk_actor v.disk_actor in
      zip-map Went (DiskActorAdvanced m world t) worker_disk_actor worker_disk_actor
      (λ w v went. went) ws vs (zip-each Went ws vs served.as_many (λ i d e lt.
      subst (λ (v : Worker W D). Went (slice_index_or ws i d) v)
      (get_or_default vs i d e (omega (arith, served.as_many))) (served.each i d lt).advanced))

  -- after some rounds beside the workers
  pub scan_again : (s s' : Scan W D) (bs : List (Backend W D)) (ws : List (Worker W D))
      → IsScan m world s → s'.shared.table ≡ s.shared.table → bs ≡ s.backends.items
      → ws ≡ s.workers.items
      → BackendsAreReady m world s'.shared.table s'.shared.queue s'.backends.items
      (record { room = s'.room; unread = s'.unread })
      → AllWorkersServed m world s'.shared.table s'.shared.queue ws s'.workers.items
      → AllZip (DiskActorAdvanced m world s'.shared.table) (map backend_disk_actor bs)
      (map backend_disk_actor s'.backends.items) → AllHaveOptions (scan_options s')
      s'.backends.items → length s'.backends.items ≡ length bs → s'.opened ≡ s.opened
      → s'.actors ≡ s.actors → s'.disks ≡ s.disks → IsScan m world s'
  scan_again s s' bs ws is table begun served waiting workers_served advanced options many opened
      actors disks =
      let b = ap length begun in
      let w = ap length served in
      record {
        backends_are = (let c = ap (λ (n : TableView). n.config.backends) table in
            omega (arith, is.backends_are));
        workers_are = (let c = ap (λ (n : TableView). n.config.runners) table in
            omega (arith, is.workers_are, workers_served.as_many));
        some = waiting.some;
        all_backends = waiting.backends;
        all_workers = λ i d lt. (workers_served.each i d
            (omega (arith, workers_served.as_many))).is;
        counters_are = rw opened (zip-then (DiskCountersFollowMarks m)
            (DiskActorAdvanced m world s'.shared.table) (DiskCountersFollowMarks m)
            (paid_on m world s'.shared.table) _ _ _ is.counters_are
            (rw (sym begun, sym served) (zip-append (DiskActorAdvanced m world
            s'.shared.table) _ _ _ _ advanced (workers_went _ _ ws s'.workers.items
            workers_served))));
        all_have_options = options;
        room = waiting.room;
        few_unread = waiting.few_unread;
        no_actors = rw actors is.no_actors;
        no_disks = rw disks is.no_disks;
        actors_fit = rw actors (omega (arith, workers_served.as_many, is.actors_fit));
        disks_fit = rw disks (omega (arith, workers_served.as_many, is.disks_fit));
      }
