-- Shelves and disks in memory that fail as a script says.
use Rattle.std.specs.Prelude.{ℕ, zero, suc, List, Bool, Option, Result, Ok, Err}
use Rattle.std.specs.Result.{result_ok}
use Rattle.aio_disk.specs.Counts.{count_plus}
use Rattle.aio_disk.specs.Steady.{SteadyDiskState, SteadyShelfState, next_disk, fresh_shelf}
use Rattle.aio_disk.specs.Steady.{with_disk, with_open_fault, with_disk_back, with_read}
use Rattle.aio_disk.specs.Shelf.{Files}
use Rattle.fault_injection.specs.Script.{fails_open, fails_length, fails_read, short_answer}
use Rattle.fault_injection.specs.declared.script.Script.{Script}

-- a disk: its files with its reads, the script, how often a length was asked for, and how often a
-- length and a read have failed
pub record MemDiskState : Type 0 where
  pub steady : SteadyDiskState
  pub script : Script
  pub lengths : ℕ
  pub length_faults : ℕ
  pub faults : ℕ

-- a shelf: its files with its reads, the script, how often an open was tried, and how many of the
-- disks taken back had failed at a length and at a read
pub record MemShelfState : Type 0 where
  pub steady : SteadyShelfState
  pub script : Script
  pub opens : ℕ
  pub length_faults : ℕ
  pub faults : ℕ

-- the count, one more where the call failed
abbrev pub raised_on_err : {T E : Type 0} → Result T E → ℕ → ℕ
raised_on_err (Ok value) count = count
raised_on_err (Err fault) count = count_plus 1 count

-- the count, one more where another is above 0
abbrev pub raised_if_any : ℕ → ℕ → ℕ
raised_if_any zero count = count
raised_if_any (suc other) count = count_plus 1 count

-- a shelf from which nothing was opened
abbrev pub fresh_mem_shelf : Files → Script → ℕ → MemShelfState
fresh_mem_shelf files script room = record {
  steady = fresh_shelf files room;
  script = script;
  opens = 0;
  length_faults = 0;
  faults = 0;
}

-- the next open fails by the script
abbrev pub fails_next_open : MemShelfState → Bool
fails_next_open shelf = fails_open shelf.script (count_plus 1 shelf.opens)

-- a disk that was not used yet
abbrev pub fresh_mem_disk : SteadyDiskState → Script → MemDiskState
fresh_mem_disk disk script = record {
  steady = disk;
  script = script;
  lengths = 0;
  length_faults = 0;
  faults = 0;
}

-- the disk that is opened next for these names
abbrev pub next_mem_disk : MemShelfState → List (List ℕ) → MemDiskState
next_mem_disk shelf names = fresh_mem_disk (next_disk shelf.steady names) shelf.script

-- the shelf with one disk more opened
abbrev pub with_mem_disk : MemShelfState → MemShelfState
with_mem_disk shelf = record shelf {
  steady = with_disk shelf.steady;
  opens = count_plus 1 shelf.opens;
}

-- the shelf after an open that failed
abbrev pub with_failed_open : MemShelfState → MemShelfState
with_failed_open shelf = record shelf {
  steady = with_open_fault shelf.steady;
  opens = count_plus 1 shelf.opens;
}

-- the shelf with a disk taken back
abbrev pub with_mem_disk_back : MemShelfState → MemDiskState → MemShelfState
with_mem_disk_back shelf disk = record shelf {
  steady = with_disk_back shelf.steady disk.steady;
  length_faults = raised_if_any disk.length_faults shelf.length_faults;
  faults = raised_if_any disk.faults shelf.faults;
}

-- the next length call fails by the script
abbrev pub fails_next_length : MemDiskState → Bool
fails_next_length disk = fails_length disk.script disk.steady.number (count_plus 1 disk.lengths)

-- the next read fails by the script
abbrev pub fails_next_read : MemDiskState → Bool
fails_next_read disk = fails_read disk.script disk.steady.number (count_plus 1 disk.steady.reads)

-- how many pages the next read answers at most by the script
abbrev pub next_short_answer : MemDiskState → Option ℕ
next_short_answer disk = short_answer disk.script disk.steady.number (count_plus 1 disk.steady.reads)

-- the disk after a length call with this answer
abbrev pub with_length_call : {T E : Type 0} → MemDiskState → Result T E → MemDiskState
with_length_call disk result = record disk {
  lengths = count_plus 1 disk.lengths;
  length_faults = raised_on_err result disk.length_faults;
}

-- the disk after a read with this answer
abbrev pub with_scripted_read : {E : Type 0} → MemDiskState → ℕ → ℕ → ℕ → Result ℕ E → MemDiskState
with_scripted_read disk relation first asked result = record disk {
  steady = with_read disk.steady relation first asked (result_ok result);
  faults = raised_on_err result disk.faults;
}
