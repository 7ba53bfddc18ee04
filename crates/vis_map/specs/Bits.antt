-- The visibility map (`visibilitymap.c`): two bits for each heap block, behind the page header.
use Rattle.std.specs.Prelude.{ℕ, ◌+◌, ◌/◌, ◌%◌, ◌^◌, Bool, ◌==◌, nat_le, List}
use Rattle.std.specs.Prelude.{Option, Some, None, slice_index, slice_get}
use Rattle.vis_map.specs.declared.map.Skip.{Skip}
use Rattle.vis_map.specs.declared.map.Skip.TheVariants.{Visible, Frozen}

-- a map, as contracts see it: how many pages it is to have, and those that were added
pub record Map : Type 0 where
  pub pages : ℕ
  pub added : List (List ℕ)

-- so many blocks has a page of the map (`HEAPBLOCKS_PER_PAGE`): 8168 bytes behind the header, four
-- in each
abbrev pub blocks_per_page : ℕ
blocks_per_page = 32672

-- the bits of a block on its page: the byte at `HEAPBLK_TO_MAPBYTE`, from `HEAPBLK_TO_OFFSET` on
unfoldable pub page_bits : List ℕ → ℕ → ℕ
page_bits page block =
    slice_index page (24 + block % blocks_per_page / 4) / 4 ^ (block % 4) % 4

abbrev pub bits_or_zero : Option (List ℕ) → ℕ → ℕ
bits_or_zero None block = 0
bits_or_zero (Some page) block = page_bits page block

-- the bits of a block in these pages; 0 where its page (`HEAPBLK_TO_MAPBLOCK`) is not among them
abbrev pub block_bits : List (List ℕ) → ℕ → ℕ
block_bits pages block = bits_or_zero (slice_get pages (block / blocks_per_page)) block

-- whether a block with these bits is left out: `VISIBILITYMAP_ALL_VISIBLE` is 1, and
-- `VISIBILITYMAP_ALL_FROZEN` is 2
abbrev pub bits_match : Skip → ℕ → Bool
bits_match Visible bits = bits % 2 == 1
bits_match Frozen bits = nat_le 2 bits

-- whether a block is left out, by the pages of the map
abbrev pub is_marked : List (List ℕ) → Skip → ℕ → Bool
is_marked pages skip block = bits_match skip (block_bits pages block)
