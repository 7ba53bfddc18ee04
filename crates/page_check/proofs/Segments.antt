-- Relations of several segments: their blocks, segment by segment.
use Rattle.std.proofs.Common.{◌≡◌, ◌≢◌, ℕ, ◌+◌, ◌-◌, ◌*◌, ◌/◌, ◌<◌, List, [], ◌∷◌, ◌++◌}
use Rattle.std.proofs.Common.{length, take, drop, min, cond, ◌==◌, refl, ap, ◌∙◌}
use Rattle.std.proofs.Common.{arith, Bool, inl, inr, replicate}
use Rattle.std.proofs.lemmas.Bool.Decides.{eqb_tells}
use Rattle.std.proofs.lemmas.Bool.{eq-eqb, eqb-true, false_from_ne_true}
use Rattle.std.specs.List.{flat_map}
use Rattle.std.proofs.lemmas.List.{take-take, drop-take, take-append-le, drop-append-le}
use Rattle.std.proofs.lemmas.List.{length-take-le, length-drop, length-append}
use Rattle.std.proofs.Math.Nat.{mul-div-le}
use Rattle.std.proofs.Math.Seq.{drop-append-add}
use Rattle.page_check.specs.Told.{segments_joined, counted_segments, without_partial_block}
use Rattle.page_check.specs.Told.{block_count, block_contents, most_blocks}
use Rattle.page_check.specs.Told.{told_in, relation_block_count, relation_page}

-- the later segments count behind a whole one alone
abbrev later_count : ℕ → List ℕ → List (List ℕ) → List (List ℕ)
later_count size first later = cond (length first / 8192 == size) (counted_segments size later) []

pub length_without_part : (bytes : List ℕ)
    → length (without_partial_block bytes) ≡ 8192 * (length bytes / 8192)
length_without_part bytes =
    length-take-le (8192 * (length bytes / 8192)) bytes (mul-div-le (length bytes) 8192)

-- a block of the first segment
page_here : (bytes rest : List ℕ) (block : ℕ) → block < length bytes / 8192
    → block_contents (without_partial_block bytes ++ rest) block ≡ block_contents bytes block
unfolding block_contents
page_here bytes rest block below =
    let all = 8192 * (length bytes / 8192) in
    let whole = length_without_part bytes in
    let left = all - 8192 * block in
    let parts : all ≡ 8192 * block + left = omega arith in
    ap (take 8192) (drop-append-le (8192 * block) (without_partial_block bytes) rest
    (omega (arith, whole)))
    ∙ take-append-le 8192 (drop (8192 * block) (without_partial_block bytes)) rest
    (omega (arith, whole, length-drop (8192 * block) (without_partial_block bytes)))
    ∙ ap (λ (n : ℕ). take 8192 (drop (8192 * block) (take n bytes))) parts
    ∙ ap (take 8192) (drop-take (8192 * block) left bytes)
    ∙ take-take 8192 left (drop (8192 * block) bytes) (omega arith)

pub joined_none : (size : ℕ) → segments_joined size [] ≡ []
unfolding segments_joined
joined_none size = refl

-- a block of the first segment is that of the relation
pub page_of_first : (size : ℕ) (first : List ℕ) (later : List (List ℕ)) (block : ℕ)
    → block < length first / 8192
    → block_contents (segments_joined size (first ∷ later)) block ≡ block_contents first block
unfolding segments_joined
page_of_first size first later block below =
    page_here first (flat_map without_partial_block (later_count size first later)) block below

-- behind a whole segment, the others are joined
joined_whole : (size : ℕ) (first : List ℕ) (later : List (List ℕ)) → length first / 8192 ≡ size
    → segments_joined size (first ∷ later) ≡ without_partial_block first
    ++ segments_joined size later
unfolding segments_joined
joined_whole size first later whole =
    ap (λ (b : Bool). without_partial_block first ++ flat_map without_partial_block
    (cond b (counted_segments size later) []))
    (eq-eqb (length first / 8192) size whole)

-- behind any other one, none is
joined_cut : (size : ℕ) (first : List ℕ) (later : List (List ℕ)) → length first / 8192 ≢ size
    → segments_joined size (first ∷ later) ≡ without_partial_block first ++ []
unfolding segments_joined
joined_cut size first later cut =
    ap (λ (b : Bool). without_partial_block first ++ flat_map without_partial_block
    (cond b (counted_segments size later) []))
    (false_from_ne_true (length first / 8192 == size)
    (λ is. cut (eqb-true (length first / 8192) size is)))

-- a block behind a whole segment
pub page_of_later : (size : ℕ) (first : List ℕ) (later : List (List ℕ)) (block : ℕ)
    → length first / 8192 ≡ size
    → block_contents (segments_joined size (first ∷ later)) (size + block)
    ≡ block_contents (segments_joined size later) block
unfolding block_contents
page_of_later size first later block whole =
    let place : 8192 * (size + block) ≡ length (without_partial_block first) + 8192 * block =
    omega (arith, length_without_part first, whole) in
    ap (λ (l : List ℕ). take 8192 (drop (8192 * (size + block)) l))
    (joined_whole size first later whole)
    ∙ ap (λ (n : ℕ). take 8192 (drop n (without_partial_block first ++ segments_joined size later)))
    place
    ∙ ap (take 8192) (drop-append-add (without_partial_block first) (segments_joined size later)
    (8192 * block))

-- the blocks of both
pub blocks_of_whole : (size : ℕ) (first : List ℕ) (later : List (List ℕ))
    → length first / 8192 ≡ size
    → block_count (segments_joined size (first ∷ later))
    ≡ min (size + block_count (segments_joined size later)) most_blocks
unfolding block_count
blocks_of_whole size first later whole =
    omega (
      arith,
      whole,
      length_without_part first,
      ap length (joined_whole size first later whole),
      length-append (without_partial_block first) (segments_joined size later),
    )

-- the blocks of the first segment alone
pub blocks_of_cut : (size : ℕ) (first : List ℕ) (later : List (List ℕ))
    → length first / 8192 ≢ size
    → block_count (segments_joined size (first ∷ later)) ≡ block_count first
unfolding block_count
blocks_of_cut size first later cut =
    omega (
      arith,
      length_without_part first,
      ap length (joined_cut size first later cut),
      length-append (without_partial_block first) [],
    )

-- a relation of one segment
pub blocks_of_one : (size : ℕ) (file : List ℕ)
    → block_count (segments_joined size (file ∷ [])) ≡ block_count file
unfolding block_count
blocks_of_one size file = elim (eqb_tells (length file / 8192) size) [
  | inl whole ↦ omega (
    arith,
    length_without_part file,
    ap length (joined_whole size file [] whole.1),
    ap length (joined_none size),
    length-append (without_partial_block file) (segments_joined size []),
  )
  | inr cut ↦ omega (
    arith,
    length_without_part file,
    ap length (joined_cut size file [] cut.1),
    length-append (without_partial_block file) [],
  )
]

-- Worked relations of segments of 4 blocks: how many blocks they have.
abbrev blocks_in : List (List ℕ) → ℕ
blocks_in segments = relation_block_count (told_in 4 (segments ∷ [])) 0

abbrev file : ℕ → List ℕ
file blocks = replicate (8192 * blocks) 0

two_whole_segments_and_a_half : blocks_in (file 4 ∷ file 4 ∷ file 2 ∷ []) ≡ 10
unfolding segments_joined block_count
two_whole_segments_and_a_half = refl

nothing_counts_behind_a_short_segment : blocks_in (file 3 ∷ file 2 ∷ []) ≡ 3
unfolding segments_joined block_count
nothing_counts_behind_a_short_segment = refl

a_part_of_a_block_is_left_out : blocks_in (replicate (8192 * 4 + 100) 0 ∷ file 1 ∷ []) ≡ 5
unfolding segments_joined block_count
a_part_of_a_block_is_left_out = refl

nothing_counts_behind_a_long_segment : blocks_in (file 5 ∷ file 2 ∷ []) ≡ 5
unfolding segments_joined block_count
nothing_counts_behind_a_long_segment = refl

-- the block behind a whole segment is the first one of the next
first_block_of_the_second : relation_page (told_in 1 ((file 1 ∷ replicate 8192 7 ∷ []) ∷ [])) 0 1
    ≡ replicate 8192 7
unfolding segments_joined block_contents
first_block_of_the_second = refl
