-- The blocks that a command asks for, in order.
use Rattle.std.specs.Prelude.{ℕ, ◌+◌, ◌*◌, ◌-◌, ◌/◌, min, List, [], ◌∷◌, map, Option, Some, None}
use Rattle.std.specs.Prelude.{◌==◌, if◌then◌else◌}
use Rattle.std.specs.List.{flat_map, range_with_len}
use Rattle.page_check.specs.SynchronousAnswer.{Entry, Given}
use Rattle.heap_scan.specs.Job.{block_entry, job_entries}
use Rattle.heap_scan.specs.Listing.{PageFormat}
use Rattle.vis_map.specs.MapRequest.{greatest_of, map_request, needed_pages, unmarked_entries}
use Rattle.command_line.specs.Command.{Command, MapOption, command_relations, relation_number}
use Rattle.command_line.specs.Command.{first_block, asked_count}
use Rattle.page_check.specs.SynchronousAnswer.{found_at, found_page}
use Rattle.page_check.specs.Told.{Told}
use Rattle.page_check.specs.declared.rules.PageRules.{PageRules}

-- a block of a relation
abbrev pub Request : Type 0
Request = Entry (Unit {0})

abbrev pub request : ℕ → ℕ → Request
request r b = block_entry r b

-- a page that was given for a request
abbrev pub Page : Type 0
Page = Given (Unit {0})

-- so many blocks of a relation, from one on
abbrev pub block_range : ℕ → ℕ → ℕ → List Request
block_range r first count = job_entries r first count

-- the blocks that one FILE word adds
abbrev pub one_file_requests : (ℕ → ℕ) → Command → List ℕ → List Request
one_file_requests lengths command name =
    let r = relation_number name (command_relations command) in
    block_range r (first_block command) (asked_count command (lengths r))

-- those of all FILE words, by the length of each relation
unfoldable pub all_file_requests : (ℕ → ℕ) → Command → List Request
all_file_requests lengths command = flat_map (one_file_requests lengths command) command.files

-- the pages of the map, which is relation 1 and gives these, and then the blocks that it does not
-- mark
abbrev pub with_map : Option MapOption → (ℕ → ℕ) → (ℕ → List ℕ) → List Request → List Request
with_map None lengths map_page requests = requests
with_map (Some map) lengths map_page requests =
    map_request tt (lengths 1) map_page map.skip requests

-- all blocks that are asked for, by the length of each relation and the pages of the map
abbrev pub request_list : (ℕ → ℕ) → (ℕ → List ℕ) → Command → List Request
request_list lengths map_page command =
    with_map command.map lengths map_page (all_file_requests lengths command)

-- a part of a request list: the blocks of one job, or the pages of the map
abbrev pub Part : Type 0
Part = List Request

-- the blocks of some parts, in their order
abbrev pub blocks_of_parts : List Part → List Request
blocks_of_parts parts = flat_map (λ part. part) parts

-- so many blocks of a relation, from one on, in parts of 64 blocks; the last may have fewer
abbrev pub range_parts : ℕ → ℕ → ℕ → List Part
range_parts r first count =
    map (λ i. block_range r (first + 64 * i) (min 64 (count - 64 * i)))
    (range_with_len 0 ((count + 63) / 64))

-- the parts of the blocks that one FILE word adds
abbrev pub one_file_parts : (ℕ → ℕ) → Command → List ℕ → List Part
one_file_parts lengths command name =
    let r = relation_number name (command_relations command) in
    range_parts r (first_block command) (asked_count command (lengths r))

-- those of all FILE words
unfoldable pub all_file_parts : (ℕ → ℕ) → Command → List Part
all_file_parts lengths command = flat_map (one_file_parts lengths command) command.files

-- the pages of the map are the first part; each other keeps the blocks that the map does not mark
abbrev pub with_map_part : Option MapOption → (ℕ → ℕ) → (ℕ → List ℕ) → List Request → List Part
    → List Part
with_map_part None lengths map_page requests parts = parts
with_map_part (Some by) lengths map_page requests parts =
    let k = needed_pages (lengths 1) (greatest_of (map (λ (e : Request). e.block) requests)) in
    block_range 1 0 k
    ∷ map (unmarked_entries (map map_page (range_with_len 0 k)) by.skip) parts

-- the request list in parts
abbrev pub request_parts : (ℕ → ℕ) → (ℕ → List ℕ) → Command → List Part
request_parts lengths map_page command =
    with_map_part command.map lengths map_page (all_file_requests lengths command)
    (all_file_parts lengths command)

-- the listing leaves out the pages of a map
abbrev pub without_map_pages : Option MapOption → PageFormat → PageFormat
without_map_pages None format = format
without_map_pages (Some map) format = record {
  text_of = λ mark relation block page.
      if relation == 1 then [] else format.text_of mark relation block page;
  fault_count_of = λ mark relation block page.
      if relation == 1 then 0 else format.fault_count_of mark relation block page;
}

-- the pages of the map where contents are told, or else those that were given
abbrev pub map_pages_known : Option Told → PageRules → (ℕ → List ℕ) → ℕ → List ℕ
map_pages_known (Some told) rules given =
    λ block. found_page (found_at rules told 1 block)
map_pages_known None rules given = given
