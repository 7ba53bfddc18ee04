-- The first of the blocks at equal distances, and those after it.
use Rattle.std.proofs.Common.{◌≡◌, ℕ, zero, suc, ◌+◌, ◌*◌, ◌-◌, ◌<◌, ◌∷◌, map, refl, arith}
use Rattle.std.specs.List.{range_with_len}
use Rattle.block_source.specs.BlocksLeft.{block_alone, strided_blocks}

-- a start one stride further, and indices from one later on, are the same blocks
shifted : (first step at count : ℕ) →
    map (λ i. block_alone (first + i * step)) (range_with_len (at + 1) count)
    ≡ map (λ i. block_alone (first + step + i * step)) (range_with_len at count)
shifted first step at zero = refl
shifted first step at (suc count) =
    let same : first + (at + 1) * step ≡ first + step + at * step = omega arith in
    let tail = shifted first step (at + 1) count in
    rw (same, tail)

pub stepped_first : (first step count : ℕ) → 0 < count →
    strided_blocks first step count ≡ block_alone first
    ∷ strided_blocks (first + step) step (count - 1)
stepped_first first step zero some = absurd (omega arith)
stepped_first first step (suc count) some =
    let start : first + 0 * step ≡ first = omega arith in
    let less : suc count - 1 ≡ count = omega arith in
    rw (start, less, shifted first step 0 count)
