-- What the settings of a scan make.
use Rattle.std.specs.Prelude.{◌≡◌, ℕ, ◌<◌, ◌≤◌, ◌+◌, ◌*◌, ◌/◌, List, [], length, drop, min, max}
use Rattle.std.specs.Prelude.{◌-◌, ◌^◌, Some, vec_capacity, slice_get, slice_index_or}
use Rattle.std.specs.Option.{is_some}
use Rattle.std.specs.List.{All}
use Rattle.std.specs.Vec.Iter.{into_iter_items}
use Rattle.page_check.specs.declared.world.World.{Ghosts as WorldGhosts}
use Rattle.aio_word.specs.declared.Config.{Config}
use Rattle.aio_handle.specs.ContractViews.{AreNewActors}
use Rattle.method_worker.specs.QueueViews.{IsSeatOf}
use Rattle.read_stream.specs.Desks.{IsFreeDesk, desk_settings}
use Rattle.read_stream.specs.declared.desk.Desk.{Desk}
use Rattle.read_stream.specs.declared.desk.Settings.{Settings}
use Rattle.aio_disk.specs.declared.disk.Disk.{Ghosts as DiskGhosts}
use Rattle.scan_settings.specs.ListOptions.{list_options}
use Rattle.scan_rounds.specs.Rings.{IsRingOf}
use Rattle.scan_rounds.specs.Rounds.{results_taken_count}
use Rattle.scan_rounds.specs.Scans.{IsScan, scan_options, opened_disks}
use Rattle.scan_rounds.specs.declared.backend.Backend.{Backend}
use Rattle.scan_rounds.specs.declared.disk_actor.DiskActor.{DiskActor}
use Rattle.scan_rounds.specs.declared.memory.Lists.{Lists}
use Rattle.scan_rounds.specs.declared.memory.Memory.{Memory}
use Rattle.scan_rounds.specs.declared.open.Parts.{Parts}
use Rattle.scan_rounds.specs.declared.scan.Scan.{Scan}
use Rattle.scan_settings.specs.declared.page_text.PageText.{PageText}
use Rattle.scan_settings.specs.declared.settings.ScanSettings.{ScanSettings}
use Rattle.scan_rounds.specs.declared.worker.Worker.{Worker}
use Rattle.scan_settings.specs.Settings.{needs_of_method, workers_of_settings, seats_of_settings, rings_of_settings, page_rules}

-- the table of a scan, whose handles begin at this generation
abbrev pub config_of : ScanSettings → ℕ → Config
config_of s start =
    record {
      backends = s.backends;
      per_backend = s.handles;
      runners = workers_of_settings s;
      start = start;
    }

-- the settings of its streams
pub record AreStreamSettings (s : ScanSettings) (r : Settings) : Type 0 where
  pub combine : r.combine ≡ s.combine
  pub ios : r.ios ≡ min s.concurrency s.handles
  pub limit : r.limit ≡ max 1 (min (r.ios * s.combine) (s.buffers / s.backends))
  pub full : r.full ≡ s.full
  pub batch : r.batch ≡ s.batch
  pub segment : r.segment ≡ s.segment
  pub rules : r.rules ≡ page_rules s

-- a desk for the streams of a scan
pub record IsDeskFor {W : Type 0} (s : ScanSettings) (d : Desk W (Unit {0})) : Type 0 where
  pub free : IsFreeDesk d
  pub streams : AreStreamSettings s (desk_settings d)

-- its streams read as the settings say, and it has a seat and a ring where the method wants them
pub record IsBackendSetUp {W D : Type 0} (s : ScanSettings) (b : Backend W D) : Type 0 where
  pub streams : AreStreamSettings s (desk_settings b.desk)
  pub seat : is_some b.seat ≡ (needs_of_method s.method).queue
  pub ring : is_some b.ring ≡ (needs_of_method s.method).rings

module _ {W D : Type 0} where
  -- empty lists, with room for this many
  pub record HasEmptyLists (backends workers : ℕ) (l : Lists W D) : Type 0 where
    pub backends_fit : (l.backends.items ≡ []) × (backends ≤ vec_capacity l.backends)
    pub workers_fit : (l.workers.items ≡ []) × (workers ≤ vec_capacity l.workers)
    pub actors_fit : (l.actors.items ≡ []) × (backends + workers ≤ vec_capacity l.actors)
    pub disks_fit : (l.disks.items ≡ []) × (backends + workers ≤ vec_capacity l.disks)

  -- the memory of a scan with these settings, in which nothing was done
  pub record IsScanMemory (s : ScanSettings) (start : ℕ) (m : Memory W D) : Type 0 where
    pub config : m.shared.table.config ≡ config_of s start
    pub frames : m.shared.pool ≡ s.buffers
    pub actors_are : length m.actors.items ≡ s.backends + workers_of_settings s
    pub actors : AreNewActors m.shared.table 0 m.actors.items
    pub seats_are : length m.seats.items ≡ seats_of_settings s
    pub seats : All (IsSeatOf m.shared.queue) m.seats.items
    pub rings_are : length m.rings.items ≡ rings_of_settings s
    pub rings : All (IsRingOf m.shared.queue) m.rings.items
    pub desks_are : length m.desks.items ≡ s.backends
    pub desks : All (IsDeskFor s) m.desks.items
    pub lists : HasEmptyLists s.backends (workers_of_settings s) m.lists

  -- an actor with its disk has those of this number
  pub record IsDiskActorOf (p : Parts W D) (k : ℕ) (h : DiskActor W D) : Type 0 where
    pub actor : slice_get (into_iter_items p.actors) k ≡ Some h.actor
    pub disk : slice_get (into_iter_items p.disks) k ≡ h.disk

  -- a backend has the parts of this number: a seat and a ring, where there are so many
  pub record IsBackendOf (page_text : PageText) (p : Parts W D) (k : ℕ) (b : Backend W D)
      : Type 0 where
    pub disk_actor : IsDiskActorOf p k b.disk_actor
    pub desk : slice_get (into_iter_items p.desks) k ≡ Some b.desk
    pub seat : slice_get (into_iter_items p.seats) k ≡ b.seat
    pub ring : slice_get (into_iter_items p.rings) k ≡ b.ring
    pub page_text_is : b.page_text ≡ page_text

  -- a worker has the parts of this number
  pub record IsWorkerOf (p : Parts W D) (k : ℕ) (w : Worker W D) : Type 0 where
    pub disk_actor : IsDiskActorOf p k w.disk_actor
    pub seat : slice_get (into_iter_items p.seats) k ≡ Some w.seat

  -- behind n actors with their disks and seats these are left
  pub record IsLeftByWorkers (n : ℕ) (p left : Parts W D) : Type 0 where
    pub actors : into_iter_items left.actors ≡ drop n (into_iter_items p.actors)
    pub disks : into_iter_items left.disks ≡ drop n (into_iter_items p.disks)
    pub seats : into_iter_items left.seats ≡ drop n (into_iter_items p.seats)

  -- and these behind n backends
  pub record IsLeftByBackends (n : ℕ) (p left : Parts W D) : Type 0 where
    pub others : IsLeftByWorkers n p left
    pub desks : into_iter_items left.desks ≡ drop n (into_iter_items p.desks)
    pub rings : into_iter_items left.rings ≡ drop n (into_iter_items p.rings)

  -- each backend of the list has the parts of its number, and these are left
  pub record GivesBackends (page_text : PageText) (p left : Parts W D) (bs : List (Backend W D))
      : Type 0 where
    pub each : (k : ℕ) (b : Backend W D) → k < length bs
        → IsBackendOf page_text p k (slice_index_or bs k b)
    pub left_are : IsLeftByBackends (length bs) p left

  -- each worker of the list has the parts of its number, and these are left
  pub record GivesWorkers (p left : Parts W D) (ws : List (Worker W D)) : Type 0 where
    pub each : (k : ℕ) (w : Worker W D) → k < length ws → IsWorkerOf p k (slice_index_or ws k w)
    pub left_are : IsLeftByWorkers (length ws) p left

-- a scan with these settings, just opened over these disks, whose handles begin at this generation
pub record IsOpenedScan {W D : Type 0} (m : DiskGhosts D) (world : WorldGhosts W)
    (settings : ScanSettings) (start : ℕ) (disks : List D) (s : Scan W D) : Type 0 where
  pub is : IsScan m world s
  pub config : s.shared.table.config ≡ config_of settings start
  pub frames : s.shared.pool ≡ settings.buffers
  pub set_up : All (IsBackendSetUp settings) s.backends.items
  pub opened : opened_disks s ≡ disks
  pub no_results : results_taken_count s.backends.items ≡ 0
  -- up to the last generation
  pub room : s.room ≡ 2 ^ 58 - 1 - start
  pub unread : s.unread ≡ 0
  pub options_are : scan_options s ≡ list_options (page_rules settings) settings.page_text
