-- The blocks that a scan by the visibility map leaves out.
use Rattle.std.specs.Prelude.{ℕ, List, Option, Some, None, Bool, true, not}
use Rattle.std.specs.List.{filter}
use Rattle.page_check.specs.SynchronousAnswer.{Entry}
use Rattle.block_source.specs.BlocksLeft.{consecutive_blocks}
use Rattle.heap_scan.specs.Job.{job_entries}
use Rattle.vis_map.specs.Bits.{Map, is_marked}
use Rattle.vis_map.specs.MapRequest.{unmarked_entries}
use Rattle.vis_map.specs.declared.map.Skip.{Skip}
use Rattle.scan_jobs.specs.declared.map_filter.MapFilter.{MapFilter}

-- the pages of a map, and which of the blocks that they mark are left out
pub record BlockFilter : Type 0 where
  pub pages : List (List ℕ)
  pub skip : Skip

-- whether a block is listed
abbrev pub is_unskipped : Option BlockFilter → ℕ → Bool
is_unskipped None block = true
is_unskipped (Some s) block = not (is_marked s.pages s.skip block)

-- the entries that are left of these: all, where there is no map
abbrev pub unskipped_entries : Option BlockFilter → List (Entry (Unit {0}))
    → List (Entry (Unit {0}))
unskipped_entries None entries = entries
unskipped_entries (Some s) entries = unmarked_entries s.pages s.skip entries

-- so many blocks of a relation, from one on, but for those that are left out
abbrev pub unskipped_range : Option BlockFilter → ℕ → ℕ → ℕ → List (Entry (Unit {0}))
unskipped_range block_filter relation first count = unskipped_entries block_filter
    (job_entries relation first count)

-- the blocks that a source has of them
abbrev pub unskipped_source : Option BlockFilter → ℕ → ℕ → List (ℕ × Unit {0})
unskipped_source block_filter first count = filter (λ b. is_unskipped block_filter b.0)
    (consecutive_blocks first count)

-- by a map in memory
abbrev pub map_filter : Map → Skip → Option BlockFilter
map_filter map skip = Some (record { pages = map.added; skip = skip })

abbrev pub filter_of_skipping : Option MapFilter → Option BlockFilter
filter_of_skipping None = None
filter_of_skipping (Some s) = Some (record { pages = (s.map.now).added; skip = s.skip })
