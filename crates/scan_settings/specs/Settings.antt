-- The settings of a scan: what each method has, and their ranges.
use Rattle.std.specs.Prelude.{ℕ, ◌≤◌, ◌+◌}
use Rattle.std.specs.Prelude.{true, false, cond}
use Rattle.page_check.specs.declared.rules.PageRules.{PageRules}
use Rattle.scan_settings.specs.declared.settings.MethodKind.{MethodKind}
use Rattle.scan_settings.specs.declared.settings.MethodNeeds.{MethodNeeds}
use Rattle.scan_settings.specs.declared.settings.ScanSettings.{ScanSettings}
use Rattle.scan_settings.specs.declared.settings.MethodKind.TheVariants as method

-- how its pages are read
abbrev pub page_rules : ScanSettings → PageRules
page_rules s = record { checksums = s.checksums; damaged = s.damaged }

-- what a scan has by a method: a seat of the queue for each backend, workers, rings
abbrev pub needs_of_method : MethodKind → MethodNeeds
needs_of_method method.Sync = record { queue = false; workers = false; rings = false }
needs_of_method method.Worker = record { queue = true; workers = true; rings = false }
needs_of_method method.Ring = record { queue = true; workers = false; rings = true }

-- how many workers there are by a method
abbrev pub workers_of_method : MethodKind → ℕ → ℕ
workers_of_method kind workers =
    cond (needs_of_method kind).queue (cond (needs_of_method kind).workers workers 0) 0

abbrev pub workers_of_settings : ScanSettings → ℕ
workers_of_settings s = workers_of_method s.method s.workers

-- a scan has a disk for each backend and each worker
abbrev pub required_disks : ScanSettings → ℕ
required_disks s = s.backends + workers_of_settings s

-- how many seats of the queue backends and workers have
abbrev pub seats_of_settings : ScanSettings → ℕ
seats_of_settings s =
    cond (needs_of_method s.method).queue (s.backends + workers_of_settings s) 0

-- how many rings there are
abbrev pub rings_of_settings : ScanSettings → ℕ
rings_of_settings s = cond (needs_of_method s.method).rings s.backends 0

-- the settings are in their ranges
pub record AreValidScanSettings (s : ScanSettings) : Type 0 where
  pub workers_in_range : (1 ≤ s.workers) × (s.workers ≤ 32)
  pub backends_in_range : (1 ≤ s.backends) × (s.backends ≤ 16)
  pub combine_in_range : (1 ≤ s.combine) × (s.combine ≤ 128)
  pub concurrency_in_range : (1 ≤ s.concurrency) × (s.concurrency ≤ 256)
  pub handles_in_range : (1 ≤ s.handles) × (s.handles ≤ 64)
  pub buffers_in_range : (16 ≤ s.buffers) × (s.buffers ≤ 16384)
  pub segment_in_range : 1 ≤ s.segment
