-- Runs of neighbouring blocks.
use Rattle.std.specs.Prelude.{◌≡◌, ◌≢◌, ℕ, ◌+◌, ◌^◌, ◌%◌, ◌<◌, ◌≤◌, List, All}
use Rattle.std.specs.List.{range_with_len, flat_map}
use Rattle.read_plan.specs.declared.runs.Run.{Run}

-- the blocks of a run: first, first + 1 and so on, as many as it counts
abbrev pub run_blocks : Run → List ℕ
run_blocks run = range_with_len run.first run.count

-- a run of one block
abbrev pub one_block : ℕ → Run
one_block block = record { first = block; count = 1 }

-- the run has at least one block and at most `combine`, and no block above the greatest one
pub record IsRun (combine : ℕ) (run : Run) : Type 0 where
  pub not_empty : 1 ≤ run.count
  pub combined : run.count ≤ combine
  pub in_range : run.first + run.count ≤ 2 ^ 32

-- no block of the run but its first is a multiple of the segment size
pub record IsWithin (segment : ℕ) (run : Run) : Type 0 where
  pub within : (block : ℕ) → run.first < block → block < run.first + run.count
      → block % segment ≢ 0

-- the blocks of these runs, one run after the other, are these blocks
pub record AreRuns (combine segment : ℕ) (runs : List Run) (blocks : List ℕ) : Type 0 where
  pub each : All (IsRun combine) runs
  pub within : All (IsWithin segment) runs
  pub in_order : flat_map run_blocks runs ≡ blocks

-- the run is shorter than `combine` and ends right before the block, which is no multiple of the
-- segment size
pub record Continues (combine segment : ℕ) (run : Run) (block : ℕ) : Type 0 where
  pub shorter : run.count < combine
  pub neighbour : run.first + run.count ≡ block
  pub within : block % segment ≢ 0
