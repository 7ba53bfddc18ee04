-- The first pages of a map are enough for the blocks up to the greatest.
use Rattle.std.proofs.Common.{◌≡◌, ℕ, zero, suc, ◌+◌, ◌/◌, ◌<◌, ◌≤◌, min, List, [], ◌∷◌, length}
use Rattle.std.proofs.Common.{take, refl, ap, sym, ◌∙◌, arith, inl, inr, length-take}
use Rattle.std.proofs.lemmas.Bool.{cases_lt}
use Rattle.std.specs.Prelude.{slice_get, Option, None}
use Rattle.vis_map.specs.Bits.{block_bits, bits_or_zero, blocks_per_page}

got : {X : Type 0} (xs : List X) (k i : ℕ) → i < k → slice_get (take k xs) i ≡ slice_get xs i
got [] zero i below = refl
got [] (suc k) i below = refl
got (x ∷ xs) zero i below = absurd (omega arith)
got (x ∷ xs) (suc k) zero below = refl
got (x ∷ xs) (suc k) (suc i) below = got xs k i (omega arith)

past : {X : Type 0} (xs : List X) (i : ℕ) → length xs ≤ i → slice_get xs i ≡ None
past [] i none = refl
past (x ∷ xs) zero none = absurd (omega arith)
past (x ∷ xs) (suc i) none = past xs i (omega arith)

enough : (map : List (List ℕ)) (k block : ℕ) → block / blocks_per_page < k
    → block_bits (take k map) block ≡ block_bits map block
enough map k block below =
    ap (λ (page : Option (List ℕ)). bits_or_zero page block)
    (got map k (block / blocks_per_page) below)

nothing : (map : List (List ℕ)) (k block : ℕ) → length map ≤ block / blocks_per_page
    → block_bits (take k map) block ≡ block_bits map block
nothing map k block far =
    ap (λ (page : Option (List ℕ)). bits_or_zero page block)
    (past (take k map) (block / blocks_per_page) (omega (arith, length-take k map, far))
    ∙ sym (past map (block / blocks_per_page) far))

pub enough_pages : (map : List (List ℕ)) (pages last block : ℕ) → length map ≡ pages → block ≤ last
    → block_bits (take (min pages (last / blocks_per_page + 1)) map) block ≡ block_bits map block
enough_pages map pages last block size below =
    elim (cases_lt (block / blocks_per_page) (min pages (last / blocks_per_page + 1))) [
      | inl here ↦ enough map (min pages (last / blocks_per_page + 1)) block here
      | inr far ↦
          nothing map (min pages (last / blocks_per_page + 1)) block
          (omega (arith, size, below, far))
    ]
