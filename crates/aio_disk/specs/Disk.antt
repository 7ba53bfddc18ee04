-- What a disk answers, where it tells its contents.
use Rattle.std.specs.Prelude.{◌≡◌, ℕ, ◌-◌, ◌≤◌, ◌<◌, List, map, take, length, Option, Result}
use Rattle.std.specs.Prelude.{IfSome, IfOk}
use Rattle.std.specs.List.{range_with_len}
use Rattle.page_check.specs.Told.{Told, relation_bytes, block_count, relation_block_count}
use Rattle.page_check.specs.Told.{block_contents}

-- the first n of the pages are those of the blocks from `first` on
abbrev pub HoldsBlocks : List ℕ → ℕ → ℕ → List (List ℕ) → Type 0
HoldsBlocks bytes first n pages = take n pages ≡ map (block_contents bytes) (range_with_len first n)

-- n blocks of these bytes were read, and n is 0 exactly where they end at or before `first`
pub record ReadsBlocks (bytes : List ℕ) (first n : ℕ) (pages : List (List ℕ)) : Type 0 where
  pub within : n ≤ block_count bytes - first
  pub some : first < block_count bytes → 0 < n
  pub told_pages : HoldsBlocks bytes first n pages

-- n pages of a relation were read
abbrev pub ReadsPages : Told → ℕ → ℕ → ℕ → List (List ℕ) → Type 0
ReadsPages told relation first n pages = ReadsBlocks (relation_bytes told relation) first n pages

-- a length that was answered is the told one
abbrev pub AnswersLength : {E : Type 0} → Option Told → ℕ → Result ℕ E → Type 0
AnswersLength told relation result = IfOk result
    (λ n. IfSome told (λ t. n ≡ relation_block_count t relation))

-- no more pages were read than asked for, and those that were are the told ones
abbrev pub AnswersPages : {E : Type 0} → Option Told → ℕ → ℕ → Result ℕ E → List (List ℕ) → Type 0
AnswersPages told relation first result pages =
    IfOk result (λ n. (n ≤ length pages) × IfSome told (λ t. ReadsPages t relation first n pages))
