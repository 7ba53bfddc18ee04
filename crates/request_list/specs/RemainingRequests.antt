-- What is left of a request list when parts were cut off from its front.
use Rattle.std.specs.Prelude.{◌≡◌, ℕ, ◌+◌, ◌^◌, ◌<◌, ◌≤◌, ◌++◌, List, [], drop, length}
use Rattle.std.specs.Prelude.{map, slice_index, slice_index_or, Option, Some}
use Rattle.vis_map.specs.MapRequest.{greatest_of, needed_pages}
use Rattle.vis_map.specs.declared.map.Skip.{Skip}
use Rattle.std.specs.List.{flat_map}
use Rattle.page_check.specs.Told.{Told}
use Rattle.scan_settings.specs.declared.settings.ScanSettings.{ScanSettings}
use Rattle.scan_settings.specs.Settings.{page_rules}
use Rattle.command_line.specs.Command.{IsMapOf, MapOption, number_limit, command_relations}
use Rattle.command_line.specs.Command.{relation_number, first_block, asked_count}
use Rattle.request_list.specs.RequestList.{Request, Part, request_list, request_parts, range_parts}
use Rattle.request_list.specs.RequestList.{all_file_requests, all_file_parts, one_file_parts}
use Rattle.request_list.specs.RequestList.{map_pages_known}
use Rattle.request_list.specs.declared.cutter.ResolvedCommand.{ResolvedCommand}
use Rattle.request_list.specs.declared.cutter.JobRange.{JobRange}

-- how the files are read, with the segment size of the disks
abbrev pub resolved_settings : ResolvedCommand → ScanSettings
resolved_settings a = record ((a.command.now).settings) { segment = a.segment }

-- the relations are those of the command, each with a length that fits
pub record IsResolved (a : ResolvedCommand) : Type 0 where
  pub relations_are : a.relations.now ≡ command_relations a.command.now
  pub lengths_are : length a.lengths.now ≡ length a.relations.now
  pub fit : (r : ℕ) → slice_index a.lengths.now r ≤ number_limit
  pub segment_is : 1 ≤ a.segment

-- and there are so many
abbrev pub ResolvesRelations : ℕ → ResolvedCommand → Type 0
ResolvesRelations count a = IsResolved a × (count ≡ length a.relations.now)

-- the blocks that the FILE words ask for
abbrev pub resolved_requests : ResolvedCommand → List Request
resolved_requests a = all_file_requests (slice_index a.lengths.now) a.command.now

-- in parts
abbrev pub resolved_parts : ResolvedCommand → List Part
resolved_parts a = all_file_parts (slice_index a.lengths.now) a.command.now

-- all blocks that are asked for, where the map has given these pages
abbrev pub resolved_request_list : ResolvedCommand → Option Told → (ℕ → List ℕ) → List Request
resolved_request_list a told given =
    request_list (slice_index a.lengths.now)
    (map_pages_known told (page_rules (a.command.now).settings) given) a.command.now

-- in parts
abbrev pub resolved_request_parts : ResolvedCommand → Option Told → (ℕ → List ℕ) → List Part
resolved_request_parts a told given =
    request_parts (slice_index a.lengths.now)
    (map_pages_known told (page_rules (a.command.now).settings) given) a.command.now

-- the command has a map, which leaves out these blocks
pub record AsksForMap (a : ResolvedCommand) (skip : Skip) : Type 0 where
  pub map : MapOption
  pub given : (a.command.now).map ≡ Some map
  pub skip_is : map.skip ≡ skip
  pub of : IsMapOf (a.command.now).generated (a.command.now).files (a.command.now).settings map

-- the greatest block that the FILE words ask for
abbrev pub greatest_requested_block : ResolvedCommand → Option ℕ
greatest_requested_block a = greatest_of (map (λ (e : Request). e.block) (resolved_requests a))

-- how many pages of the map are read
abbrev pub map_page_count : ResolvedCommand → ℕ
map_page_count a = needed_pages (slice_index a.lengths.now 1) (greatest_requested_block a)

-- the blocks that a FILE word adds
abbrev pub file_range : ResolvedCommand → List ℕ → JobRange
file_range a name =
    let r = relation_number name (command_relations a.command.now) in record {
      relation = r;
      first = first_block a.command.now;
      count = asked_count a.command.now (slice_index a.lengths.now r);
    }

-- in parts
abbrev pub resolved_file_parts : ResolvedCommand → List ℕ → List Part
resolved_file_parts a name = one_file_parts (slice_index a.lengths.now) a.command.now name

-- these blocks in parts, and then those of the FILE words from one on
unfoldable pub remaining_parts : ResolvedCommand → JobRange → ℕ → List Part
remaining_parts a rest file =
    range_parts rest.relation rest.first rest.count
    ++ flat_map (resolved_file_parts a) (drop file (a.command.now).files)

-- the FILE word at a place
abbrev pub file_name_of_place : ResolvedCommand → ℕ → List ℕ
file_name_of_place a file = slice_index_or (a.command.now).files file []

-- what is left of a FILE word: blocks of a relation that there is
pub record IsFileRange (relations : ℕ) (range : JobRange) : Type 0 where
  pub relation_in : 0 < range.count → range.relation < relations
  pub within : range.first + range.count ≤ number_limit

-- 1 to 64 blocks of a relation that there is, each with a number
pub record IsJobRange (relations : ℕ) (cut : JobRange) : Type 0 where
  pub relation_in : cut.relation < relations
  pub few : (1 ≤ cut.count) × (cut.count ≤ 64)
  pub within : cut.first + cut.count ≤ 2 ^ 32
