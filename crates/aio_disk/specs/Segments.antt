-- Sources that are the segments of one relation, in their order.
use Rattle.std.specs.Prelude.{◌≡◌, ◌≢◌, ℕ, ◌-◌, ◌/◌, List, [], ◌∷◌, map, length, min, ⊤}
use Rattle.std.specs.Prelude.{Option, None, Some, IfSome, Result, MatchResult, slice_index_or}
use Rattle.std.specs.Option.{option_map}
use Rattle.page_check.specs.Told.{block_count}
use Rattle.aio_disk.specs.Source.{Source, with_failures, NoneFailed, OneFailed}

-- each but the last one, where it tells its bytes, has exactly so many whole blocks
abbrev pub AreWholeExceptLast : ℕ → List (Option Source) → Type 0
AreWholeExceptLast size [] = ⊤
AreWholeExceptLast size (last ∷ []) = ⊤
AreWholeExceptLast size (first ∷ next ∷ behind) =
    IfSome first (λ source. block_count source.bytes ≡ size)
    × AreWholeExceptLast size (next ∷ behind)

-- where each of them tells its bytes, this holds of their bytes
abbrev pub IfAllTell : List (Option Source) → (List (List ℕ) → Type 0) → Type 0
IfAllTell segments holds =
    (bytes : List (List ℕ)) → map (option_map (λ source. source.bytes)) segments ≡ map Some bytes
    → holds bytes

-- what one of them tells
abbrev pub segment_told : List (Option Source) → ℕ → Option Source
segment_told segments index = slice_index_or segments index None

-- the segment that a block is in: the last one has all blocks from its first one on
abbrev pub segment_index : ℕ → List (Option Source) → ℕ → ℕ
segment_index size segments block = min (block / size) (length segments - 1)

-- no other one was called
abbrev pub OthersStay : List (Option Source) → List (Option Source) → ℕ → Type 0
OthersStay before now index =
    (other : ℕ) → other ≢ index → segment_told now other ≡ segment_told before other

-- one of them, if any, was asked for its size, and failed where the answer is a fault
abbrev pub AsksOneSegment : {E : Type 0} → Option Source → Option Source → Result ℕ E → Type 0
AsksOneSegment before now result =
    MatchResult result (λ _. now ≡ before) (λ _. now ≡ option_map (with_failures 1 0) before)

-- one of them, if any, was read, and failed where the answer is a fault
abbrev pub ReadsOneSegment : {E : Type 0} → Option Source → Option Source → Result ℕ E → Type 0
ReadsOneSegment before now result =
    MatchResult result (λ _. NoneFailed before now) (λ _. OneFailed before now)
