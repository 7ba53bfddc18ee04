-- The log of the reads of a disk in memory, or of all disks that were given back.
use Rattle.std.specs.Prelude.{ℕ, List, [], ◌∷◌, ◌++◌, take, Option}
use Rattle.aio_disk.specs.declared.read_log.ReadEntry.{ReadEntry}

-- entries in the order of the reads, and how many there is room for
pub record Log : Type 0 where
  pub entries : List ReadEntry
  pub room : ℕ

-- a read of a disk: its relation and first block, how many pages were asked for, and how many were
-- given
abbrev pub read_entry : ℕ → ℕ → ℕ → ℕ → Option ℕ → ReadEntry
read_entry disk relation first asked answered = record {
  disk = disk;
  relation = relation;
  first = first;
  asked = asked;
  answered = answered;
}

-- a log without entries
abbrev pub empty_log : ℕ → Log
empty_log room = record { entries = []; room = room }

-- the log with more entries: those past its room are left out
abbrev pub with_entries : Log → List ReadEntry → Log
with_entries log more = record log { entries = take log.room (log.entries ++ more) }

-- the log with one more entry, where there is room
abbrev pub with_entry : Log → ReadEntry → Log
with_entry log entry = with_entries log (entry ∷ [])
