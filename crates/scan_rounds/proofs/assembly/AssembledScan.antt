-- What was made of the parts of a new scan.
use Rattle.std.proofs.Common.{◌≡◌, ℕ, ◌+◌, ◌-◌, ◌^◌, ◌<◌, ◌≤◌, List, [], length, refl, sym, ap}
use Rattle.std.proofs.Common.{◌∙◌, subst, arith}
use Rattle.std.specs.Prelude.{IfSome, vec_capacity, is_some, cond}
use Rattle.std.specs.List.{All}
use Rattle.std.specs.Vec.Iter.{into_iter_items}
use Rattle.page_check.specs.declared.rules.PageRules.{PageRules}
use Rattle.page_check.specs.declared.world.World.{Ghosts as WorldGhosts}
use Rattle.aio_word.specs.declared.Config.{Config}
use Rattle.aio_handle.specs.ContractViews.{AreNewActors}
use Rattle.method_worker.specs.QueueViews.{IsSeatOf}
use Rattle.aio_disk.specs.declared.disk.Disk.{Ghosts as DiskGhosts}
use Rattle.scan_settings.specs.ListOptions.{list_options}
use Rattle.scan_settings.specs.Settings.{AreValidScanSettings}
use Rattle.scan_rounds.specs.OpenedScan.{GivesBackends, GivesWorkers}
use Rattle.scan_rounds.specs.OpenedScan.{IsDeskFor, IsOpenedScan, config_of}
use Rattle.scan_settings.specs.Settings.{needs_of_method}
use Rattle.scan_settings.specs.Settings.{page_rules, rings_of_settings, seats_of_settings}
use Rattle.scan_settings.specs.Settings.{workers_of_settings}
use Rattle.scan_rounds.specs.Rings.{IsRingOf}
use Rattle.scan_rounds.specs.Rounds.{IsLeastRoom}
use Rattle.scan_rounds.specs.Scans.{IsScan, scan_options, opened_disks}
use Rattle.scan_rounds.specs.declared.backend.Backend.{Backend}
use Rattle.scan_rounds.specs.declared.open.Parts.{Parts}
use Rattle.scan_rounds.specs.declared.worker.Worker.{Worker}
use Rattle.scan_rounds.specs.declared.scan.Scan.{Scan}
use Rattle.scan_settings.specs.declared.page_text.PageText.{PageText}
use Rattle.scan_settings.specs.declared.settings.ScanSettings.{ScanSettings}
use Rattle.scan_rounds.proofs.assembly.PartsGiven.{all_at, some_at, behind, disk_actor_behind}
use Rattle.scan_rounds.proofs.assembly.NewDiskActors.{AreNewDiskActors, new_disk_actor}
use Rattle.scan_rounds.proofs.assembly.NewDiskActors.{rooms_of_new}
use Rattle.scan_rounds.proofs.assembly.NewDiskActors.{none_taken, paid_of_new, backends_of_new}
use Rattle.scan_rounds.proofs.assembly.NewDiskActors.{workers_of_new}
use Rattle.scan_rounds.proofs.assembly.SeatsAndRings.{beside_workers, has_wanted}

same_options : {a b : PageRules} {c d : PageText} → a ≡ b → c ≡ d
    → list_options a c ≡ list_options b d
same_options same also = rw (same, also) refl

module _ {W D : Type 0} where
  -- the scan was made of these parts, the backends first
  pub record IsMadeOf (settings : ScanSettings) (start : ℕ) (s : Scan W D) (p q r : Parts W D)
      : Type 0 where
    pub config : s.shared.table.config ≡ config_of settings start
    pub frames : s.shared.pool ≡ settings.buffers
    pub actors : AreNewActors s.shared.table 0 (into_iter_items p.actors)
    pub seats : All (IsSeatOf s.shared.queue) (into_iter_items p.seats)
    pub desks : All (IsDeskFor settings) (into_iter_items p.desks)
    pub seats_are : length (into_iter_items p.seats) ≡ seats_of_settings settings
    pub rings : All (IsRingOf s.shared.queue) (into_iter_items p.rings)
    pub rings_are : length (into_iter_items p.rings) ≡ rings_of_settings settings
    pub opened : opened_disks s ≡ into_iter_items p.disks
    pub disks_are : length (into_iter_items p.disks) ≡ settings.backends
        + workers_of_settings settings
    pub backends : GivesBackends settings.page_text p q s.backends.items
    pub backends_are : length s.backends.items ≡ settings.backends
    pub workers : GivesWorkers q r s.workers.items
    pub workers_are : length s.workers.items ≡ workers_of_settings settings
    pub room : s.room ≡ 2 ^ 58 - 1 - start
    pub unread : s.unread ≡ 0
    pub options_are : scan_options s ≡ list_options (page_rules settings) settings.page_text
    pub actors_fit : (s.actors.items ≡ [])
        × (settings.backends + workers_of_settings settings ≤ vec_capacity s.actors)
    pub disks_fit : (s.disks.items ≡ [])
        × (settings.backends + workers_of_settings settings ≤ vec_capacity s.disks)

  module _ (settings : ScanSettings) (start : ℕ) (s : Scan W D) (p q r : Parts W D)
      (ranges : AreValidScanSettings settings) (early : start < 2 ^ 58)
      (made : IsMadeOf settings start s p q r) where
    all_new : AreNewDiskActors s.shared.table (opened_disks s) s.backends.items s.workers.items
    all_new =
        let bs = s.backends.items in
        let t = s.shared.table in
        let count = made.backends_are in
        let others = made.workers_are in
        let disks = made.disks_are in
        let P : List D → Type 0 = λ ds. AreNewDiskActors t ds bs s.workers.items in
        subst P (sym made.opened) record {
          of_backends = λ k b lt. new_disk_actor t p k _ made.actors
              (omega (arith, lt, count, disks)) (made.backends.each k b lt).disk_actor;
          of_workers = λ k w lt. new_disk_actor t p (length bs + k) _ made.actors
              (omega (arith, lt, count, others, disks))
              (disk_actor_behind p q r (length bs) made.backends.left_are.others k (length bs + k)
              _ refl (made.workers.each k w lt).disk_actor);
        }

    backends_as_said : s.shared.table.config.backends ≡ length s.backends.items
    backends_as_said =
        ap (λ (c : Config). c.backends) made.config ∙ sym made.backends_are

    workers_as_said : s.shared.table.config.runners ≡ length s.workers.items
    workers_as_said = ap (λ (c : Config). c.runners) made.config ∙ sym made.workers_are

    some_handles : 1 ≤ s.shared.table.config.per_backend
    some_handles =
        let each = ap (λ (c : Config). c.per_backend) made.config in
        let range = ranges.handles_in_range.0 in omega (arith, each, range)

    disks_as_many : length (opened_disks s) ≡ length s.backends.items + length s.workers.items
    disks_as_many =
        let disks = ap length made.opened ∙ made.disks_are in
        let backends = made.backends_are in
        let workers = made.workers_are in omega (arith, disks, backends, workers)

    all_seats : All (λ (b : Backend W D). IfSome b.seat (IsSeatOf s.shared.queue)) s.backends.items
    all_seats k b lt = some_at (IsSeatOf s.shared.queue) (into_iter_items p.seats) k _ made.seats
        (made.backends.each k b lt).seat

    worker_seats : All (λ (w : Worker W D). IsSeatOf s.shared.queue w.seat) s.workers.items
    worker_seats k w lt =
        let n : ℕ = length s.backends.items in
        all_at (IsSeatOf s.shared.queue) (into_iter_items p.seats) (n + k) _ made.seats
        (behind _ _ n k (n + k) _ made.backends.left_are.others.seats refl
        (made.workers.each k w lt).seat)

    all_rings : All (λ (b : Backend W D). IfSome b.ring (IsRingOf s.shared.queue)) s.backends.items
    all_rings k b lt = some_at (IsRingOf s.shared.queue) (into_iter_items p.rings) k _ made.rings
        (made.backends.each k b lt).ring

    all_desks : All (λ (b : Backend W D). IsDeskFor settings b.desk) s.backends.items
    all_desks k b lt = all_at (IsDeskFor settings) (into_iter_items p.desks) k _ made.desks
        (made.backends.each k b lt).desk

    all_seated : All (λ (b : Backend W D). is_some b.seat
        ≡ (needs_of_method settings.method).queue) s.backends.items
    all_seated k b lt = has_wanted (into_iter_items p.seats) k _
        (needs_of_method settings.method).queue settings.backends (workers_of_settings settings)
        (made.backends.each k b lt).seat (rw (← made.backends_are) lt) made.seats_are

    all_ringed : All (λ (b : Backend W D). is_some b.ring
        ≡ (needs_of_method settings.method).rings) s.backends.items
    all_ringed k b lt =
        let none : settings.backends + 0 ≡ settings.backends = omega arith in
        has_wanted (into_iter_items p.rings) k _ (needs_of_method settings.method).rings
        settings.backends 0 (made.backends.each k b lt).ring (rw (← made.backends_are) lt)
        (rw none made.rings_are)

    module _ (m : DiskGhosts D) (world : WorldGhosts W)
        (tell : All (λ d. (m.told d ≡ world.told) × (m.relations d ≡ world.relations))
        (opened_disks s)) where
      is_scan : IsScan m world s
      is_scan =
          let bs = s.backends.items in
          let ws = s.workers.items in
          let t = s.shared.table in
          let backends = backends_as_said in
          let workers = workers_as_said in
          let few = made.backends_are in
          let others = made.workers_are in
          let range = ranges.backends_in_range.0 in
          let begun : t.config.start ≡ start = ap (λ (c : Config). c.start) made.config in
          let rooms = rooms_of_new t (opened_disks s) bs ws all_new (omega (arith, few, range))
          (omega (arith, backends)) some_handles (omega (arith, begun, early)) in
          let same = ap (λ (n : ℕ). 2 ^ 58 - 1 - n) begun ∙ sym made.room in
          let none = made.unread in
          let actors = made.actors_fit.1 in
          let disks = made.disks_fit.1 in
          let P : ℕ → Type 0 = λ n. IsLeastRoom bs n in record {
            backends_are = backends;
            workers_are = workers;
            some = omega (arith, few, range);
            all_backends = backends_of_new t (opened_disks s)
                bs ws all_new m world tell s.shared.queue (omega (arith, backends))
                (λ k b lt. (all_desks k b lt).free) all_seats
                (λ some k b lt. all_seated k b lt ∙ beside_workers
                (needs_of_method settings.method).queue
                (cond (needs_of_method settings.method).workers settings.workers 0)
                (let runners = ap (λ (c : Config). c.runners) made.config in
                omega (arith, some, runners))) all_rings;
            all_workers = workers_of_new t (opened_disks s) bs ws all_new m world tell
                s.shared.queue (omega (arith, backends)) worker_seats;
            counters_are = paid_of_new t (opened_disks s) bs ws all_new m world
                disks_as_many;
            all_have_options = λ k b lt. same_options (all_desks k b lt).streams.rules
                (made.backends.each k b lt).page_text_is ∙ sym made.options_are;
            room = subst P same rooms;
            few_unread = omega (arith, none);
            no_actors = made.actors_fit.0;
            no_disks = made.disks_fit.0;
            actors_fit = omega (arith, actors, few, others);
            disks_fit = omega (arith, disks, few, others);
          }

    -- stands as it should at its start
    pub opened_scan : (m : DiskGhosts D) (world : WorldGhosts W) (disks : List D)
        → opened_disks s ≡ disks → All (λ d. (m.told d ≡ world.told) ×
        (m.relations d ≡ world.relations)) disks
        → IsOpenedScan m world settings start disks s
    opened_scan m world disks same tell =
        let P : D → Type 0 = λ d. (m.told d ≡ world.told) × (m.relations d ≡ world.relations) in
        let Q : List D → Type 0 = λ ds. All P ds in record {
          is = is_scan m world (subst Q (sym same) tell);
          config = made.config;
          frames = made.frames;
          set_up = λ k b lt. record {
            streams = (all_desks k b lt).streams;
            seat = all_seated k b lt;
            ring = all_ringed k b lt;
          };
          opened = same;
          no_results = none_taken s.shared.table (opened_disks s) s.backends.items s.workers.items
              all_new;
          room = made.room;
          unread = made.unread;
          options_are = made.options_are;
        }
