-- The settings of a reader.
use Rattle.std.specs.Prelude.{◌≤◌, false}
use Rattle.page_check.specs.declared.rules.PageRules.{PageRules}
use Rattle.page_check.specs.declared.rules.DamagedPages.TheVariants.{Refuse}
use Rattle.page_reader.specs.declared.settings.ReaderSettings.{ReaderSettings}

-- each setting is in its range
pub record IsReadable (s : ReaderSettings) : Type 0 where
  pub combine_in : (1 ≤ s.combine) × (s.combine ≤ 128)
  pub concurrency_in : (1 ≤ s.concurrency) × (s.concurrency ≤ 64)
  pub frames_in : (16 ≤ s.frames) × (s.frames ≤ 16384)

-- checksums are not verified, and a damaged page ends the reading
abbrev pub default_rules : PageRules
default_rules = record { checksums = false; damaged = Refuse }
