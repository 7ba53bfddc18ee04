-- Segments of a relation, one after the other, as its blocks are counted and found.
use Rattle.std.proofs.Common.{◌≡◌, ◌≢◌, ℕ, ◌+◌, ◌-◌, ◌/◌, ◌^◌, ◌<◌, ◌≤◌, List, ◌∷◌, length}
use Rattle.std.proofs.Common.{drop, min, get_or, [], refl, ap, sym, ◌∙◌, arith, inl, inr, suc, map}
use Rattle.std.proofs.Common.{◌++◌}
use Rattle.std.proofs.Common.{append_assoc}
use Rattle.std.proofs.lemmas.Bool.Decides.{eqb_tells}
use Rattle.std.proofs.lemmas.List.{drop_more}
use Rattle.std.proofs.Math.ListN.{drop_of_length-le}
use Rattle.std.specs.Prelude.{Option, Some}
use Rattle.std.specs.List.{range_with_len}
use Rattle.aio_disk.specs.Shelf.{up_to_gap}
use Rattle.page_check.specs.Told.{segments_joined, block_count, block_contents}
use Rattle.page_check.proofs.Segments.{page_of_first, page_of_later, joined_none}
use Rattle.page_check.proofs.Segments.{blocks_of_whole, blocks_of_cut}

pub counted : (bytes : List ℕ) → block_count bytes ≡ min (length bytes / 8192) (2 ^ 32 - 1)
unfolding block_count
counted bytes = refl

-- the segments from one on
pub from_here : {A : Type 0} (all : List A) (i : ℕ) (first : A) → i < length all
    → first ≡ get_or all i first → drop i all ≡ first ∷ drop (i + 1) all
from_here {A} all i first below is =
    drop_more all i first below ∙ ap (λ (x : A). x ∷ drop (i + 1) all) (sym is)

pub is_whole : (size : ℕ) (first : List ℕ) → size ≤ 131072 → block_count first ≡ size
    → length first / 8192 ≡ size
is_whole size first small is = omega (arith, counted first)

is_cut : (size : ℕ) (first : List ℕ) → size ≤ 131072 → block_count first ≢ size
    → length first / 8192 ≢ size
is_cut size first small cut whole = cut (omega (arith, counted first))

pub count_starts : (bytes : List ℕ) → min (0 + block_count bytes) (2 ^ 32 - 1) ≡ block_count bytes
count_starts bytes = omega (arith, counted bytes)

-- the count goes on behind a segment of exactly the size
pub count_on : (size count blocks total : ℕ) (all : List (List ℕ)) (i : ℕ) (first : List ℕ)
    → size ≤ 131072 → drop i all ≡ first ∷ drop (i + 1) all → blocks ≡ block_count first
    → total ≡ min (count + blocks) (2 ^ 32 - 1) → blocks ≡ size
    → min (count + block_count (segments_joined size (drop i all))) (2 ^ 32 - 1)
    ≡ block_count (segments_joined size all)
    → min (total + block_count (segments_joined size (drop (i + 1) all))) (2 ^ 32 - 1)
    ≡ block_count (segments_joined size all)
count_on size count blocks total all i first small here is sum whole before =
    omega (
      arith,
      before,
      ap (λ (l : List (List ℕ)). block_count (segments_joined size l)) here,
      blocks_of_whole size first (drop (i + 1) all) (is_whole size first small (sym is ∙ whole)),
    )

-- and ends behind any other one
pub count_ends : (size count blocks total : ℕ) (all : List (List ℕ)) (i : ℕ) (first : List ℕ)
    → size ≤ 131072 → drop i all ≡ first ∷ drop (i + 1) all → blocks ≡ block_count first
    → total ≡ min (count + blocks) (2 ^ 32 - 1) → blocks ≢ size
    → min (count + block_count (segments_joined size (drop i all))) (2 ^ 32 - 1)
    ≡ block_count (segments_joined size all)
    → total ≡ block_count (segments_joined size all)
count_ends size count blocks total all i first small here is sum cut before =
    omega (
      arith,
      before,
      ap (λ (l : List (List ℕ)). block_count (segments_joined size l)) here,
      blocks_of_cut size first (drop (i + 1) all)
          (is_cut size first small (λ whole. cut (is ∙ whole))),
    )

-- nothing is left behind the last one
none_left : (size : ℕ) (all : List (List ℕ)) (i : ℕ) → length all ≤ i
    → block_count (segments_joined size (drop i all)) ≡ 0
none_left size all i past =
    ap (λ (l : List (List ℕ)). block_count (segments_joined size l)) (drop_of_length-le all past)
    ∙ counted (segments_joined size [])
    ∙ ap (λ (l : List ℕ). min (length l / 8192) (2 ^ 32 - 1)) (joined_none size)

pub count_all : (size count : ℕ) (all : List (List ℕ)) (i : ℕ) → length all ≤ i → count ≤ 2 ^ 32 - 1
    → min (count + block_count (segments_joined size (drop i all))) (2 ^ 32 - 1)
    ≡ block_count (segments_joined size all)
    → count ≡ block_count (segments_joined size all)
count_all size count all i past fits before = omega (arith, before, none_left size all i past)

pub none_below : (size block : ℕ) (all : List (List ℕ)) (i : ℕ) → length all ≤ i
    → block < block_count (segments_joined size (drop i all)) → ⊥
none_below size block all i past below = omega (arith, below, none_left size all i past)

-- the block is in this segment
pub block_here : (size block : ℕ) (all : List (List ℕ)) (i : ℕ) (first : List ℕ)
    → drop i all ≡ first ∷ drop (i + 1) all → block < block_count first
    → block_contents first block ≡ block_contents (segments_joined size (drop i all)) block
block_here size block all i first here below =
    sym (ap (λ (l : List (List ℕ)). block_contents (segments_joined size l) block) here
    ∙ page_of_first size first (drop (i + 1) all) block (omega (arith, counted first)))

-- or in one behind it
pub record Behind (size block : ℕ) (all : List (List ℕ)) (i : ℕ) : Type 0 where
  pub least : size ≤ block
  pub below : block - size < block_count (segments_joined size (drop (i + 1) all))
  pub page : block_contents (segments_joined size (drop (i + 1) all)) (block - size)
      ≡ block_contents (segments_joined size (drop i all)) block

pub block_behind : (size block : ℕ) (all : List (List ℕ)) (i : ℕ) (first : List ℕ)
    → size ≤ 131072 → drop i all ≡ first ∷ drop (i + 1) all → block_count first ≤ block
    → block < block_count (segments_joined size (drop i all)) → Behind size block all i
block_behind size block all i first small here past below =
    elim (eqb_tells (length first / 8192) size) [
      | inl whole ↦
          let later = drop (i + 1) all in
          let both = blocks_of_whole size first later whole.1 in
          let at = ap (λ (l : List (List ℕ)). block_count (segments_joined size l)) here in
          let least : size ≤ block = omega (arith, counted first, whole.1, past) in
          let split : block ≡ size + (block - size) = omega (arith, least) in record {
            least = least;
            below = omega (arith, below, at, both, least);
            page =
                sym (ap (λ (l : List (List ℕ)). block_contents (segments_joined size l) block) here
                ∙ ap (block_contents (segments_joined size (first ∷ later))) split
                ∙ page_of_later size first later (block - size) whole.1);
          }
      | inr cut ↦ absurd (omega (
        arith,
        below,
        past,
        ap (λ (l : List (List ℕ)). block_count (segments_joined size l)) here,
        blocks_of_cut size first (drop (i + 1) all) cut.1,
      ))
    ]

-- one more segment is there
pub one_more : {A : Type 0} (f : ℕ → Option A) (all found more : List A) (n : ℕ) (next : A)
    → n < 17 → f n ≡ Some next → more ≡ found ++ (next ∷ [])
    → all ≡ found ++ up_to_gap (map f (range_with_len n (17 - n)))
    → all ≡ more ++ up_to_gap (map f (range_with_len (n + 1) (17 - (n + 1))))
one_more {A} f all found more n next below there pushed before =
    let rest = 17 - (n + 1) in
    let left : 17 - n ≡ suc rest = omega arith in
    let later = up_to_gap (map f (range_with_len (n + 1) rest)) in
    before
    ∙ ap (λ (k : ℕ). found ++ up_to_gap (map f (range_with_len n k))) left
    ∙ ap (λ (o : Option A). found ++ up_to_gap (o ∷ map f (range_with_len (n + 1) rest))) there
    ∙ sym (append_assoc found (next ∷ []) later)
    ∙ ap (λ (l : List A). l ++ later) (sym pushed)
