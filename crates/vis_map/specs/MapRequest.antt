-- The list of blocks that a scan by the visibility map asks for.
use Rattle.std.specs.Prelude.{ℕ, ◌+◌, ◌/◌, min, max, not, List, [], ◌∷◌, ◌++◌, map, filter}
use Rattle.std.specs.Prelude.{Option, Some, None, fold}
use Rattle.std.specs.List.{range_with_len}
use Rattle.page_check.specs.SynchronousAnswer.{Entry}
use Rattle.vis_map.specs.declared.map.Skip.{Skip}
use Rattle.vis_map.specs.Bits.{blocks_per_page, is_marked}

-- the greatest block of a list, where there is one
abbrev pub greatest_of : List ℕ → Option ℕ
greatest_of [] = None
greatest_of (block ∷ blocks) = Some (fold max block blocks)

-- how many pages of a map of so many are read, for a list whose greatest block is this one
abbrev pub needed_pages : ℕ → Option ℕ → ℕ
needed_pages pages None = 0
needed_pages pages (Some greatest) = min pages (greatest / blocks_per_page + 1)

-- a plain list without the blocks that the map marks
abbrev pub unmarked_blocks : List (List ℕ) → Skip → List ℕ → List ℕ
unmarked_blocks pages skip blocks = filter (λ block. not (is_marked pages skip block)) blocks

module _ {P : Type 0} where
  abbrev pub unmarked_entries : List (List ℕ) → Skip → List (Entry P) → List (Entry P)
  unmarked_entries pages skip entries = filter (λ e. not (is_marked pages skip e.block)) entries

  -- The pages of the map, which is relation 1 of `length` pages and gives these, and then the
  -- entries of the plain list that the map does not mark, in their order.
  abbrev pub map_request : P → ℕ → (ℕ → List ℕ) → Skip → List (Entry P) → List (Entry P)
  map_request value length given skip entries =
      let k = needed_pages length (greatest_of (map (λ e. e.block) entries)) in
      map (λ block. record { relation = 1; block = block; per_buffer_data = value })
      (range_with_len 0 k)
      ++ unmarked_entries (map given (range_with_len 0 k)) skip entries
