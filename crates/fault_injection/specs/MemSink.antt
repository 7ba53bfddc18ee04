-- A sink in memory, whose writes fail where its list says so.
use Rattle.std.specs.Prelude.{ℕ, List, [], ◌++◌, find, Option, ◌==◌}
use Rattle.std.specs.Option.{option_map}
use Rattle.aio_disk.specs.Counts.{count_plus}

-- what was written, the writes that fail with how many bytes they take, how often it was written
-- to, and how often that failed
pub record MemSinkState : Type 0 where
  pub bytes : List ℕ
  pub fails : List (ℕ × ℕ)
  pub writes : ℕ
  pub faults : ℕ

-- a sink to which nothing was written
abbrev pub fresh_sink : List (ℕ × ℕ) → MemSinkState
fresh_sink fails = record { bytes = []; fails = fails; writes = 0; faults = 0 }

-- how many bytes a write takes before it fails, where the list has it: the first entry of a write
-- counts
abbrev pub cut_of : List (ℕ × ℕ) → ℕ → Option ℕ
cut_of fails write = option_map (λ fail. fail.1) (find (λ fail. fail.0 == write) fails)

-- the same of the next write
abbrev pub next_cut : MemSinkState → Option ℕ
next_cut sink = cut_of sink.fails (count_plus 1 sink.writes)

-- the sink after a write of these bytes
abbrev pub with_write : MemSinkState → List ℕ → MemSinkState
with_write sink bytes = record sink {
  bytes = sink.bytes ++ bytes;
  writes = count_plus 1 sink.writes;
}

-- the sink after a write that failed behind these bytes
abbrev pub with_failed_write : MemSinkState → List ℕ → MemSinkState
with_failed_write sink bytes = record sink {
  bytes = sink.bytes ++ bytes;
  writes = count_plus 1 sink.writes;
  faults = count_plus 1 sink.faults;
}
