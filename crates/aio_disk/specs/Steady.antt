-- Shelves and disks in memory that do not fail.
use Rattle.std.specs.Prelude.{ℕ, ◌+◌, ◌-◌, ◌^◌, List, min, Option}
use Rattle.page_check.specs.Told.{Told}
use Rattle.aio_disk.specs.Shelf.{Files, files_told}
use Rattle.aio_disk.specs.Counts.{count_plus}
use Rattle.aio_disk.specs.ReadLog.{Log, read_entry, empty_log, with_entry, with_entries}

-- a disk: its number in the order of opening, what it tells, how often it was read, and those
-- reads
pub record SteadyDiskState : Type 0 where
  pub number : ℕ
  pub told : Told
  pub reads : ℕ
  pub log : Log

-- a shelf: its files, how many disks it has opened, how many opens have failed, how often the
-- disks taken back were read, and those reads
pub record SteadyShelfState : Type 0 where
  pub files : Files
  pub disks : ℕ
  pub open_faults : ℕ
  pub reads : ℕ
  pub log : Log

-- a shelf from which nothing was opened
abbrev pub fresh_shelf : Files → ℕ → SteadyShelfState
fresh_shelf files room = record {
  files = files;
  disks = 0;
  open_faults = 0;
  reads = 0;
  log = empty_log room;
}

-- the disk that is opened next for these names
abbrev pub next_disk : SteadyShelfState → List (List ℕ) → SteadyDiskState
next_disk shelf names = record {
  number = shelf.disks;
  told = files_told shelf.files names;
  reads = 0;
  log = empty_log shelf.log.room;
}

-- the shelf with one disk more opened: the numbers of disks end at 2^32 - 1
abbrev pub with_disk : SteadyShelfState → SteadyShelfState
with_disk shelf = record shelf { disks = min (shelf.disks + 1) (2 ^ 32 - 1) }

-- the disk after a read of a relation from block `first` on, by how many pages were asked for and
-- how many were given
abbrev pub with_read : SteadyDiskState → ℕ → ℕ → ℕ → Option ℕ → SteadyDiskState
with_read disk relation first asked answered = record disk {
  reads = count_plus 1 disk.reads;
  log = with_entry disk.log (read_entry disk.number relation first asked answered);
}

-- the shelf after an open that failed
abbrev pub with_open_fault : SteadyShelfState → SteadyShelfState
with_open_fault shelf = record shelf { open_faults = count_plus 1 shelf.open_faults }

-- the shelf with a disk taken back
abbrev pub with_disk_back : SteadyShelfState → SteadyDiskState → SteadyShelfState
with_disk_back shelf disk = record shelf {
  reads = count_plus disk.reads shelf.reads;
  log = with_entries shelf.log disk.log.entries;
}
