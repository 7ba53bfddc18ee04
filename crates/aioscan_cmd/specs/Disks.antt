-- Disks of a run.
use Rattle.std.specs.Prelude.{◌≡◌, ℕ, Option}
use Rattle.page_check.specs.Told.{Told}
use Rattle.aio_disk.specs.declared.disk.Disk.{Ghosts as DiskGhosts}

-- the disk tells the same as the others, and was not read yet
pub record IsUnreadDisk {D : Type 0} (m : DiskGhosts D) (told : Option Told)
    (relations segment : ℕ) (d : D) : Type 0 where
  pub told_is : m.told d ≡ told
  pub relations_are : m.relations d ≡ relations
  pub segment_is : m.segment d ≡ segment
  pub no_faults : m.faults d ≡ 0
  pub no_reads : m.reads d ≡ 0
