-- The lists of blocks that sources have left.
use Rattle.std.specs.Prelude.{◌≡◌, ℕ, ◌+◌, ◌*◌, List, [], ◌∷◌, map, Option, Some, None}
use Rattle.std.specs.List.{range_with_len}

-- what is left before and after a call that takes the first element off; it answers None exactly
-- where nothing is left
abbrev pub TakesFirst : {X : Type 0} → List X → Option X → List X → Type 0
TakesFirst before None after = (before ≡ []) × (after ≡ [])
TakesFirst before (Some x) after = before ≡ x ∷ after

-- a block without data of the caller's
abbrev pub block_alone : ℕ → ℕ × Unit {0}
block_alone block = (block, tt)

-- the blocks first, first + step and so on, as many as count
abbrev pub strided_blocks : ℕ → ℕ → ℕ → List (ℕ × Unit {0})
strided_blocks first step count = map (λ i. block_alone (first + i * step)) (range_with_len 0 count)

-- the blocks first, first + 1 and so on, as many as count
abbrev pub consecutive_blocks : ℕ → ℕ → List (ℕ × Unit {0})
consecutive_blocks first count = map block_alone (range_with_len first count)
