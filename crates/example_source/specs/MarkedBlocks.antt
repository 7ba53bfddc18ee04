-- A bitmap of blocks.
use Rattle.std.specs.Prelude.{ℕ, ◌/◌, ◌%◌, ◌^◌, ◌==◌, Bool, List, map, filter, slice_index}
use Rattle.std.specs.List.{range_with_len}
use Rattle.block_source.specs.BlocksLeft.{block_alone}

-- whether the bit of a block is set: bit 0 of a byte is its lowest
abbrev pub is_marked : List ℕ → ℕ → Bool
is_marked bits block = slice_index bits (block / 8) / 2 ^ (block % 8) % 2 == 1

-- the marked blocks among so many from the first on
abbrev pub marked_blocks : List ℕ → ℕ → ℕ → List (ℕ × Unit {0})
marked_blocks bits first count =
    map block_alone (filter (is_marked bits) (range_with_len first count))
