-- New actors with their disks.
use Rattle.std.proofs.Common.{◌≡◌, ℕ, zero, suc, ◌+◌, ◌-◌, ◌*◌, ◌^◌, ◌<◌, ◌≤◌, List, [], ◌∷◌, ◌++◌}
use Rattle.std.proofs.Common.{length, map, sym, ap, ◌∙◌, subst, arith, length-append}
use Rattle.std.specs.Prelude.{IfSome, is_some, slice_get, slice_index_or, true}
use Rattle.std.specs.List.{All, AllZip}
use Rattle.std.specs.Vec.Iter.{into_iter_items}
use Rattle.std.proofs.Math.Nat.{mul-lt-mul_of_pos_right, mul-div_cancel}
use Rattle.std.proofs.lemmas.List.{length-map}
use Rattle.std.proofs.lemmas.List.Sums.{sum_by-le}
use Rattle.std.proofs.lemmas.Option.{get_or_from_slice_get, slice_get-get_or, slice_get_within}
use Rattle.page_check.specs.declared.world.World.{Ghosts as WorldGhosts}
use Rattle.aio_word.specs.Events.{handle_count, owner}
use Rattle.aio_word.specs.Words.{last_generation}
use Rattle.aio_handle.specs.Execution.{CountersFollowMarks}
use Rattle.aio_handle.specs.TableInvariant.{initial_known}
use Rattle.aio_handle.specs.ContractViews.{TableView, ActorView, AreNewActors}
use Rattle.method_worker.specs.QueueViews.{QueueView, IsSeatOf}
use Rattle.read_stream.specs.Desks.{IsFreeDesk}
use Rattle.read_stream.specs.ActorProgress.{local_mark_count}
use Rattle.aio_disk.specs.declared.disk.Disk.{Ghosts as DiskGhosts}
use Rattle.scan_rounds.specs.DiskActors.{ActorHasRoom, IsDiskActor, IsBackend, IsWorker}
use Rattle.scan_rounds.specs.OpenedScan.{IsDiskActorOf}
use Rattle.scan_rounds.specs.Rings.{IsRingOf}
use Rattle.scan_rounds.specs.Rounds.{IsLeastRoom, backend_disk_actor, worker_disk_actor}
use Rattle.scan_rounds.specs.Rounds.{results_taken_count}
use Rattle.scan_rounds.specs.Scans.{DiskCountersFollowMarks}
use Rattle.scan_rounds.specs.declared.backend.Backend.{Backend}
use Rattle.scan_rounds.specs.declared.disk_actor.DiskActor.{DiskActor}
use Rattle.scan_rounds.specs.declared.open.Parts.{Parts}
use Rattle.scan_rounds.specs.declared.worker.Worker.{Worker}
use Rattle.scan_rounds.proofs.assembly.PartsGiven.{all_at, there}
use Rattle.scan_rounds.proofs.ListPairs.{zip-each}

abbrev pub fresh : TableView → ℕ → ActorView
fresh t k = record { table = t.table; known = initial_known t.config k }

-- the lives of a new backend's handles go from the first generation to the last
room_of_new : (t : TableView) (k : ℕ) (a : ActorView) → a ≡ fresh t k → k < t.config.backends
    → 1 ≤ t.config.per_backend → t.config.start < 2 ^ 58
    → ActorHasRoom (2 ^ 58 - 1 - t.config.start) a
room_of_new t k a is lt some start =
    let pos : zero < t.config.per_backend = omega (arith, some) in
    let within : k * t.config.per_backend < handle_count t.config =
    mul-lt-mul_of_pos_right lt pos in
    let own : k ≡ owner t.config (k * t.config.per_backend) = sym (mul-div_cancel k pos) in
    let P : ActorView → Type 0 = λ x. ActorHasRoom (2 ^ 58 - 1 - t.config.start) x in
    subst P (sym is) (
      last_generation - t.config.start,
      record {
        of_runner = λ le. absurd (omega (arith, le, lt));
        for_each = λ h range owned. (omega (arith, start));
        exact = λ below.
            (k * t.config.per_backend, within, own, (let e = start in omega (arith, e)));
      },
      omega arith,
    )

-- and it has no others
most_of_new : (t : TableView) (k n : ℕ) (a : ActorView) → a ≡ fresh t k → k < t.config.backends
    → ActorHasRoom n a → n ≤ 2 ^ 58 - 1 - t.config.start
most_of_new t k n a is lt has =
    let P : ActorView → Type 0 = λ x. ActorHasRoom n x in
    let (room, r, most) = subst P is has in
    let (h, range, own, last) = r.exact lt in omega arith

pays_nothing : (reads faults : ℕ) → CountersFollowMarks reads reads faults faults []
pays_nothing reads faults = record {
  read_each = λ below. omega arith;
  fault_each = λ below. omega arith;
}

module _ {W D : Type 0} where
  -- it has the new actor and the disk of this number
  pub record IsNewDiskActor (t : TableView) (ds : List D) (k : ℕ) (h : DiskActor W D) : Type 0 where
    pub actor : h.actor ≡ fresh t k
    pub disk : slice_get ds k ≡ h.disk
    pub within : k < length ds

  -- backends have the first numbers, and workers the next
  pub record AreNewDiskActors (t : TableView) (ds : List D) (bs : List (Backend W D))
      (ws : List (Worker W D)) : Type 0 where
    pub of_backends : (k : ℕ) (b : Backend W D) → k < length bs
        → IsNewDiskActor t ds k (slice_index_or bs k b).disk_actor
    pub of_workers : (k : ℕ) (w : Worker W D) → k < length ws
        → IsNewDiskActor t ds (length bs + k) (slice_index_or ws k w).disk_actor

  pub new_disk_actor : (t : TableView) (p : Parts W D) (k : ℕ) (h : DiskActor W D)
      → AreNewActors t 0 (into_iter_items p.actors) → k < length (into_iter_items p.disks)
      → IsDiskActorOf p k h → IsNewDiskActor t (into_iter_items p.disks) k h
  new_disk_actor t p k h new within is =
      let actors : List ActorView = into_iter_items p.actors in
      let first : 0 + k ≡ k = omega arith in record {
        actor = sym (get_or_from_slice_get actors k h.actor h.actor is.actor)
            ∙ new k h.actor (slice_get_within actors k h.actor is.actor)
            ∙ ap (λ (n : ℕ). fresh t n) first;
        disk = is.disk;
        within = within;
      }

  -- what holds of each by its number
  each_disk_actor : (P : ℕ → DiskActor W D → Type 0) (bs : List (Backend W D))
      (ws : List (Worker W D))
      → ((k : ℕ) (b : Backend W D) → k < length bs → P k (slice_index_or bs k b).disk_actor)
      → ((k : ℕ) (w : Worker W D) → k < length ws
      → P (length bs + k) (slice_index_or ws k w).disk_actor)
      → (i : ℕ) (h : DiskActor W D) → i < length bs + length ws
      → P i (slice_index_or (map backend_disk_actor bs ++ map worker_disk_actor ws) i h)
  each_disk_actor P [] [] f g i h lt = absurd (omega (arith, lt))
  each_disk_actor P [] (w ∷ ws) f g zero h lt = g 0 w (omega arith)
  each_disk_actor P [] (w ∷ ws) f g (suc i) h lt =
      each_disk_actor (λ k. P (suc k)) [] ws (λ k b le. absurd (omega (arith, le)))
      (λ k v le.
      (let e : 0 + suc k ≡ suc (0 + k) = omega arith in
      subst (λ (n : ℕ). P n (slice_index_or ws k v).disk_actor) e (g (suc k) v (omega (arith, le)))))
      i h (omega (arith, lt))
  each_disk_actor P (b ∷ bs) ws f g zero h lt = f 0 b (omega arith)
  each_disk_actor P (b ∷ bs) ws f g (suc i) h lt =
      each_disk_actor (λ k. P (suc k)) bs ws (λ k c le. f (suc k) c (omega (arith, le)))
      (λ k v le.
      (let e : suc (length bs) + k ≡ suc (length bs + k) = omega arith in
      subst (λ (n : ℕ). P n (slice_index_or ws k v).disk_actor) e (g k v le)))
      i h (omega (arith, lt))

  pub many_disk_actors : (bs : List (Backend W D)) (ws : List (Worker W D))
      → length (map backend_disk_actor bs ++ map worker_disk_actor ws) ≡ length bs + length ws
  many_disk_actors bs ws =
      let both = length-append (map backend_disk_actor bs) (map worker_disk_actor ws) in
      let backends = length-map bs backend_disk_actor in
      let workers = length-map ws worker_disk_actor in omega (arith, both, backends, workers)

  module _ (t : TableView) (ds : List D) (bs : List (Backend W D)) (ws : List (Worker W D))
      (new : AreNewDiskActors t ds bs ws) where
    -- and none has more
    pub rooms_of_new : 1 ≤ length bs → length bs ≤ t.config.backends → 1 ≤ t.config.per_backend
        → t.config.start < 2 ^ 58 → IsLeastRoom bs (2 ^ 58 - 1 - t.config.start)
    rooms_of_new any few some start = record {
      all_have_room = λ k b lt.
          room_of_new t k _ (new.of_backends k b lt).actor (omega (arith, lt, few)) some start;
      greatest = λ n rooms.
          (let first : 0 < length bs = omega (arith, any) in
          let b = (there bs 0 first).0 in
          most_of_new t 0 n _ (new.of_backends 0 b first).actor (omega (arith, first, few))
          (rooms 0 b first));
    }

    pub none_taken : results_taken_count bs ≡ 0
    none_taken =
        let taken : Backend W D → ℕ = λ b. local_mark_count b.disk_actor.actor.known.marks in
        let least = sum_by-le taken 0 bs (λ k b lt.
        (let none = ap (λ (x : ActorView). local_mark_count x.known.marks)
        (new.of_backends k b lt).actor in
        omega (arith, none))) in omega (arith, least)

    module _ (m : DiskGhosts D) (world : WorldGhosts W) where
      paid : (k : ℕ) (h : DiskActor W D) (o : D) → IsNewDiskActor t ds k h
          → DiskCountersFollowMarks m (slice_index_or ds k o) h
      paid k h o is = record {
        disk = slice_index_or ds k o;
        held = sym is.disk ∙ slice_get-get_or ds k o is.within;
        counters_follow = rw (ap (λ (x : ActorView). x.known.marks) is.actor) (pays_nothing _ _);
      }

      pub paid_of_new : length ds ≡ length bs + length ws
          → AllZip (DiskCountersFollowMarks m) ds
          (map backend_disk_actor bs ++ map worker_disk_actor ws)
      paid_of_new many =
          let all = many_disk_actors bs ws in
          zip-each (DiskCountersFollowMarks m) ds _ (omega (arith, many, all)) (λ i o h lt.
          each_disk_actor (λ k x. DiskCountersFollowMarks m (slice_index_or ds k o) x) bs ws
          (λ k b le. paid k _ o (new.of_backends k b le))
          (λ k w le. paid (length bs + k) _ o (new.of_workers k w le)) i h
          (omega (arith, lt, many)))

      module _ (tell : All (λ d. (m.told d ≡ world.told) × (m.relations d ≡ world.relations)) ds)
        where
          disk_actor_of : (k : ℕ) (h : DiskActor W D) → IsNewDiskActor t ds k h
              → IsDiskActor m world t h
          disk_actor_of k h is =
              let (disk, at) = there ds k is.within in record {
                disk = disk;
                held = sym is.disk ∙ at;
                tells = all_at (λ d. (m.told d ≡ world.told) × (m.relations d ≡ world.relations)) ds k
                    disk tell at;
                of = (
                  ap (λ (x : ActorView). x.table) is.actor,
                  ap (λ (x : ActorView). x.known.config) is.actor,
                );
                rest = (
                  ap (λ (x : ActorView). x.known.out) is.actor,
                  λ e.
                      (let none = ap (λ (x : ActorView). x.known.marks) is.actor in
                      rw none (omega arith)),
                );
              }

          pub backends_of_new : (q : QueueView) → length bs ≤ t.config.backends
              → All (λ (b : Backend W D). IsFreeDesk b.desk) bs
              → All (λ (b : Backend W D). IfSome b.seat (IsSeatOf q)) bs
              → (1 ≤ t.config.runners → All (λ (b : Backend W D). is_some b.seat ≡ true) bs)
              → All (λ (b : Backend W D). IfSome b.ring (IsRingOf q)) bs
              → All (IsBackend m world t q) bs
          backends_of_new q few desks seats seated rings k b lt =
              let is = new.of_backends k b lt in
              let P : ActorView → Type 0 = λ x. x.known.number < x.known.config.backends in record {
                disk_actor = disk_actor_of k _ is;
                backend = subst P (sym is.actor) (omega (arith, lt, few));
                desk = desks k b lt;
                seat = seats k b lt;
                has_seat = λ some. seated some k b lt;
                ring = rings k b lt;
              }

          pub workers_of_new : (q : QueueView) → t.config.backends ≤ length bs
              → All (λ (w : Worker W D). IsSeatOf q w.seat) ws
              → All (IsWorker m world t q) ws
          workers_of_new q enough seats k w lt =
              let is = new.of_workers k w lt in
              let P : ActorView → Type 0 = λ x. x.known.config.backends ≤ x.known.number in record {
                disk_actor = disk_actor_of (length bs + k) _ is;
                worker = subst P (sym is.actor) (omega (arith, enough));
                seat = seats k w lt;
              }
