-- The contents of the relations, as the outside tells them.
use Rattle.std.specs.Prelude.{ℕ, ◌-◌, ◌*◌, ◌/◌, ◌^◌, ◌==◌, List, [], ◌∷◌, length, take, drop, min}
use Rattle.std.specs.Prelude.{slice_index_or, cond}
use Rattle.std.specs.List.{flat_map}

-- the bytes of the segments of each relation, in their order, and how many blocks a segment has
-- that another one follows (`RELSEG_SIZE` of `pg_config.h`)
pub record Told : Type 0 where
  pub relations : List (List (List ℕ))
  pub segment : ℕ

-- relations of segments of this size
abbrev pub told_in : ℕ → List (List (List ℕ)) → Told
told_in segment relations = record { relations = relations; segment = segment }

-- the most blocks that a relation can have: block numbers end at `MaxBlockNumber` (`block.h`)
abbrev pub most_blocks : ℕ
most_blocks = 2 ^ 32 - 1

-- the bytes but for a part of a block at their end
abbrev pub without_partial_block : List ℕ → List ℕ
without_partial_block bytes = take (8192 * (length bytes / 8192)) bytes

-- the segments that count: the first one, and each behind one that counts and has exactly as many
-- whole blocks as the segment size says (`mdnblocks` of `md.c`)
abbrev pub counted_segments : ℕ → List (List ℕ) → List (List ℕ)
counted_segments size [] = []
counted_segments size (first ∷ later) =
    first ∷ cond (length first / 8192 == size) (counted_segments size later) []

-- the whole blocks of the segments that count, one segment after the other
unfoldable pub segments_joined : ℕ → List (List ℕ) → List ℕ
segments_joined size segments = flat_map without_partial_block (counted_segments size segments)

-- how many whole blocks these bytes have
unfoldable pub block_count : List ℕ → ℕ
block_count bytes = min (length bytes / 8192) most_blocks

-- the bytes of a block
unfoldable pub block_contents : List ℕ → ℕ → List ℕ
block_contents bytes block = take 8192 (drop (8192 * block) bytes)

-- the bytes of the blocks of a relation
abbrev pub relation_bytes : Told → ℕ → List ℕ
relation_bytes told relation = segments_joined told.segment
    (slice_index_or told.relations relation [])

-- how many blocks a relation has
abbrev pub relation_block_count : Told → ℕ → ℕ
relation_block_count told relation = block_count (relation_bytes told relation)

-- the page of a block that the relation has
abbrev pub relation_page : Told → ℕ → ℕ → List ℕ
relation_page told relation block = block_contents (relation_bytes told relation) block
