-- Segments of a relation that are called one at a time.
use Rattle.std.proofs.Common.{◌≡◌, ◌≢◌, ℕ, zero, suc, ◌+◌, ◌-◌, ◌*◌, ◌/◌, ◌^◌, ◌<◌, ◌≤◌, List, []}
use Rattle.std.proofs.Common.{◌∷◌, ◌++◌, length, map, drop, min}
use Rattle.std.proofs.Common.{get_or, slice_set, refl, sym, ap, ◌∙◌}
use Rattle.std.proofs.Common.{arith, inl, inr, subst}
use Rattle.std.specs.Prelude.{Option, Some, None, IfSome, ⊤}
use Rattle.std.specs.Option.{option_map}
use Rattle.std.specs.List.{range_with_len}
use Rattle.std.proofs.Math.Nat.{mul-suc, mul-le-mul_left, mul-div-le, mod-lt, mod-eq-sub-mul-div}
use Rattle.std.proofs.Math.ListN.{drop_of_length-le}
use Rattle.std.proofs.lemmas.Bool.Decides.{eqb_tells}
use Rattle.std.proofs.lemmas.List.{get_or-map, get_or-set_same, get_or-set_other, length-map}
use Rattle.std.proofs.lemmas.List.{map-set, drop_more, take-append-le}
use Rattle.page_check.specs.Told.{segments_joined, block_count, block_contents}
use Rattle.page_check.proofs.Segments.{page_of_first, page_of_later, blocks_of_whole}
use Rattle.page_check.proofs.Segments.{blocks_of_cut, blocks_of_one}
use Rattle.aio_disk.specs.Disk.{ReadsBlocks, HoldsBlocks}
use Rattle.aio_disk.specs.Source.{Source}
use Rattle.aio_disk.specs.Segments.{AreWholeExceptLast, segment_told}
use Rattle.aio_disk.proofs.GivenPages.{map_shift}
use Rattle.aio_disk.proofs.SegmentBySegment.{counted, is_whole}

-- the sources tell these bytes
abbrev pub Tell : List (Option Source) → List (List ℕ) → Type 0
Tell segments bytes = map (option_map (λ source. source.bytes)) segments ≡ map Some bytes

-- each but the last one has exactly so many whole blocks
abbrev Whole : ℕ → List (List ℕ) → Type 0
Whole size [] = ⊤
Whole size (last ∷ []) = ⊤
Whole size (first ∷ next ∷ behind) = (block_count first ≡ size) × Whole size (next ∷ behind)

tells_here : (source : Option Source) (bytes : List ℕ) (P : List ℕ → Type 0)
    → option_map (λ s. s.bytes) source ≡ Some bytes → IfSome source (λ s. P s.bytes) → P bytes
tells_here None bytes P tells holds = absurd cc
tells_here (Some s) bytes P tells holds =
    let same : s.bytes ≡ bytes = cc in subst P same holds

tells_first : (s : Option Source) (segments : List (Option Source)) (b : List ℕ)
    (bytes : List (List ℕ)) → Tell (s ∷ segments) (b ∷ bytes)
    → option_map (λ source. source.bytes) s ≡ Some b
tells_first s segments b bytes tell = cc

tells_behind : (s : Option Source) (segments : List (Option Source)) (b : List ℕ)
    (bytes : List (List ℕ)) → Tell (s ∷ segments) (b ∷ bytes) → Tell segments bytes
tells_behind s segments b bytes tell = cc

-- what holds of a segment's bytes, where it tells them, does
pub tells_at : (segments : List (Option Source)) (bytes : List (List ℕ)) (i : ℕ)
    (P : List ℕ → Type 0) → Tell segments bytes → i < length segments
    → IfSome (segment_told segments i) (λ s. P s.bytes) → P (get_or bytes i [])
tells_at [] bytes i P tell below holds = absurd (omega arith)
tells_at (s ∷ segments) [] i P tell below holds = absurd cc
tells_at (s ∷ segments) (b ∷ bytes) zero P tell below holds =
    tells_here s b P (tells_first s segments b bytes tell) holds
tells_at (s ∷ segments) (b ∷ bytes) (suc i) P tell below holds =
    tells_at segments bytes i P (tells_behind s segments b bytes tell) (omega arith) holds

whole_bytes : (size : ℕ) (segments : List (Option Source)) (bytes : List (List ℕ))
    → Tell segments bytes → AreWholeExceptLast size segments → Whole size bytes
whole_bytes size segments [] tell whole = tt
whole_bytes size segments (b ∷ []) tell whole = tt
whole_bytes size [] (b ∷ c ∷ bytes) tell whole = absurd cc
whole_bytes size (s ∷ []) (b ∷ c ∷ bytes) tell whole =
    let none = tells_behind s [] b (c ∷ bytes) tell in absurd cc
whole_bytes size (s ∷ t ∷ segments) (b ∷ c ∷ bytes) tell whole = (
  tells_here s b (λ l. block_count l ≡ size) (tells_first s (t ∷ segments) b (c ∷ bytes) tell)
      whole.0,
  whole_bytes size (t ∷ segments) (c ∷ bytes) (tells_behind s (t ∷ segments) b (c ∷ bytes) tell)
      whole.1,
)

-- the blocks up to a segment, and those from it on
blocks_from : (size : ℕ) (bytes : List (List ℕ)) (i : ℕ) → size ≤ 131072 → Whole size bytes
    → i < length bytes
    → block_count (segments_joined size bytes)
    ≡ min (size * i + block_count (segments_joined size (drop i bytes))) (2 ^ 32 - 1)
blocks_from size bytes zero small whole below = omega (arith, counted (segments_joined size bytes))
blocks_from size [] (suc i) small whole below = absurd (omega arith)
blocks_from size (last ∷ []) (suc i) small whole below = absurd (omega arith)
blocks_from size (first ∷ next ∷ behind) (suc i) small whole below =
    omega (
      arith,
      mul-suc size i,
      blocks_of_whole size first (next ∷ behind) (is_whole size first small whole.0),
      blocks_from size (next ∷ behind) i small whole.1 (omega arith),
    )

-- a block of a segment is that of the relation
page_from : (size : ℕ) (bytes : List (List ℕ)) (i block : ℕ) → size ≤ 131072 → Whole size bytes
    → i < length bytes
    → block_contents (segments_joined size bytes) (size * i + block)
    ≡ block_contents (segments_joined size (drop i bytes)) block
page_from size bytes zero block small whole below =
    let place : size * 0 + block ≡ block = omega arith in
    ap (block_contents (segments_joined size bytes)) place
page_from size [] (suc i) block small whole below = absurd (omega arith)
page_from size (last ∷ []) (suc i) block small whole below = absurd (omega arith)
page_from size (first ∷ next ∷ behind) (suc i) block small whole below =
    let place : size * suc i + block ≡ size + (size * i + block) =
    omega (arith, mul-suc size i) in
    ap (block_contents (segments_joined size (first ∷ next ∷ behind))) place
    ∙ page_of_later size first (next ∷ behind) (size * i + block)
    (is_whole size first small whole.0)
    ∙ page_from size (next ∷ behind) i block small whole.1 (omega arith)

whole_at : (size : ℕ) (bytes : List (List ℕ)) (i : ℕ) → Whole size bytes
    → i + 1 < length bytes → block_count (get_or bytes i []) ≡ size
whole_at size [] i whole below = absurd (omega arith)
whole_at size (last ∷ []) i whole below = absurd (omega arith)
whole_at size (first ∷ next ∷ behind) zero whole below = whole.0
whole_at size (first ∷ next ∷ behind) (suc i) whole below =
    whole_at size (next ∷ behind) i whole.1 (omega arith)

-- how many blocks the relation has, by its last segment
pub count_joined : (size : ℕ) (segments : List (Option Source)) (bytes : List (List ℕ)) (last : ℕ)
    → size ≤ 131072 → AreWholeExceptLast size segments → Tell segments bytes
    → last + 1 ≡ length bytes
    → block_count (segments_joined size bytes)
    ≡ min (size * last + block_count (get_or bytes last [])) (2 ^ 32 - 1)
count_joined size segments bytes last small whole tell is =
    let here = get_or bytes last [] in
    let none : drop (last + 1) bytes ≡ [] = drop_of_length-le bytes (omega arith) in
    let from : drop last bytes ≡ here ∷ [] =
    drop_more bytes last [] (omega arith)
    ∙ ap (λ (l : List (List ℕ)). here ∷ l) none in
    omega (
      arith,
      blocks_from size bytes last small (whole_bytes size segments bytes tell whole) (omega arith),
      ap (λ (l : List (List ℕ)). block_count (segments_joined size l)) from,
      blocks_of_one size here,
    )

-- the segment has no more blocks than the relation from it on
least_from : (size : ℕ) (here : List ℕ) (behind : List (List ℕ)) → size ≤ 131072
    → block_count here ≤ block_count (segments_joined size (here ∷ behind))
least_from size here behind small = elim (eqb_tells (length here / 8192) size) [
  | inl whole ↦ omega (arith, counted here, whole.1, blocks_of_whole size here behind whole.1)
  | inr cut ↦ omega (arith, blocks_of_cut size here behind cut.1)
]

-- where a block of the relation is: in a segment, and not behind its end but in the last one
abbrev pub IsIn : ℕ → List (List ℕ) → ℕ → ℕ → ℕ → Type 0
IsIn size bytes first i inside =
    (i < length bytes) × (first ≡ size * i + inside) × (i + 1 < length bytes → inside < size)

-- a block that the relation has is one that the segment has
has_block : (size : ℕ) (bytes : List (List ℕ)) (first i inside : ℕ) → size ≤ 131072
    → Whole size bytes → IsIn size bytes first i inside
    → first < block_count (segments_joined size bytes)
    → inside < block_count (get_or bytes i [])
has_block size bytes first i inside small whole place below =
    elim (eqb_tells (i + 1) (length bytes)) [
      | inl last ↦
          let here = get_or bytes i [] in
          let none : drop (i + 1) bytes ≡ [] =
          drop_of_length-le bytes (omega (arith, last.1)) in
          let from : drop i bytes ≡ here ∷ [] =
          drop_more bytes i [] place.0 ∙ ap (λ (l : List (List ℕ)). here ∷ l) none in
          omega (
            arith,
            below,
            place.1,
            blocks_from size bytes i small whole place.0,
            ap (λ (l : List (List ℕ)). block_count (segments_joined size l)) from,
            blocks_of_one size here,
          )
      | inr more ↦
          let behind : i + 1 < length bytes = omega (arith, more.1, place.0) in
          omega (arith, place.2 behind, whole_at size bytes i whole behind)
    ]

-- pages of a segment are those of the relation
pages_joined : (size : ℕ) (bytes : List (List ℕ)) (first i inside n : ℕ) (pages : List (List ℕ))
    → size ≤ 131072 → Whole size bytes → i < length bytes → first ≡ size * i + inside
    → n ≤ block_count (get_or bytes i []) - inside
    → HoldsBlocks (get_or bytes i []) inside n pages
    → HoldsBlocks (segments_joined size bytes) first n pages
pages_joined size bytes first i inside zero pages small whole below is within bytes_held = refl
pages_joined size bytes first i inside (suc n) pages small whole below is within bytes_held =
    let here = get_or bytes i [] in
    let from = drop_more bytes i [] below in
    bytes_held
    ∙ map_shift (block_contents here) (block_contents (segments_joined size bytes)) (size * i)
    inside (suc n)
    (λ j under.
    sym (page_from size bytes i j small whole below
    ∙ ap (λ (l : List (List ℕ)). block_contents (segments_joined size l) j) from
    ∙ page_of_first size here (drop (i + 1) bytes) j (omega (arith, counted here, within))))
    ∙ ap (λ (k : ℕ). map (block_contents (segments_joined size bytes)) (range_with_len k (suc n)))
    (sym is)

-- what was read of a segment was read of the relation
pub reads_joined : (size : ℕ) (segments : List (Option Source)) (bytes : List (List ℕ))
    (first i inside n : ℕ) (pages : List (List ℕ)) → size ≤ 131072
    → AreWholeExceptLast size segments → Tell segments bytes → IsIn size bytes first i inside
    → first + n < 2 ^ 32 → ReadsBlocks (get_or bytes i []) inside n pages
    → ReadsBlocks (segments_joined size bytes) first n pages
reads_joined size segments bytes first i inside n pages small wholes tell place room reads =
    let whole = whole_bytes size segments bytes tell wholes in
    let here = get_or bytes i [] in record {
      within =
          omega (
            arith,
            reads.within,
            place.1,
            blocks_from size bytes i small whole place.0,
            ap (λ (l : List (List ℕ)). block_count (segments_joined size l))
                (drop_more bytes i [] place.0),
            least_from size here (drop (i + 1) bytes) small,
          );
      some = λ below. reads.some (has_block size bytes first i inside small whole place below);
      told_pages = pages_joined size bytes first i inside n pages small whole place.0 place.1
          reads.within reads.told_pages;
    }

pub tell_length : (segments : List (Option Source)) (bytes : List (List ℕ)) → Tell segments bytes
    → length segments ≡ length bytes
tell_length segments bytes tell =
    sym (length-map segments (option_map (λ source. source.bytes)))
    ∙ ap length tell ∙ length-map bytes (λ b. Some b)

-- what a segment tells once it was called
pub told_new : {S : Type 0} (told : S → Option Source) (segments : List S) (i : ℕ) (called : S)
    → i < length segments → segment_told (map told (slice_set segments i called)) i ≡ told called
told_new told segments i called below =
    ap (λ (l : List (Option Source)). segment_told l i) (map-set told segments i called)
    ∙ get_or-set_same (map told segments) i (told called) None
    (omega (arith, below, length-map segments told))

-- and before
pub told_old : {S : Type 0} (told : S → Option Source) (segments : List S) (i : ℕ) (d : S)
    → i < length segments → segment_told (map told segments) i ≡ told (get_or segments i d)
told_old told segments i d below = get_or-map told segments i d None below

-- the others tell what they told
pub told_other : {S : Type 0} (told : S → Option Source) (segments : List S) (i : ℕ) (called : S)
    (other : ℕ) → other ≢ i
    → segment_told (map told (slice_set segments i called)) other
    ≡ segment_told (map told segments) other
told_other told segments i called other differs =
    ap (λ (l : List (Option Source)). segment_told l other) (map-set told segments i called)
    ∙ get_or-set_other (map told segments) i other (told called) None differs

-- what the call of one of them gave
pub called_at : {S : Type 0} (told : S → Option Source) (segments : List S) (i place : ℕ)
    (called d : S) (P : Option Source → Option Source → Type 0) → i < length segments → place ≡ i
    → P (told (get_or segments i d)) (told called)
    → P (segment_told (map told segments) place)
    (segment_told (map told (slice_set segments i called)) place)
called_at told segments i place called d P below is holds =
    let before = segment_told (map told segments) in
    let now = segment_told (map told (slice_set segments i called)) in
    let old : P (before i) (told called) =
    subst (λ o. P o (told called)) (sym (told_old told segments i d below)) holds in
    let both : P (before i) (now i) =
    subst (λ o. P (before i) o) (sym (told_new told segments i called below)) old in
    subst (λ k. P (before k) (now k)) (sym is) both

-- the segment that a block is in
pub place_of : (size first count i : ℕ) → 1 ≤ size → 0 < count → i ≡ min (first / size) (count - 1)
    → (size * i ≤ first) × (i + 1 < count → first - size * i < size)
place_of size first count i least some is =
    let front : i ≤ first / size = omega (arith, is) in (
      omega (arith, mul-le-mul_left size front, mul-div-le first size),
      λ behind.
          let exact : i ≡ first / size = omega (arith, is, behind) in
          let all = ap (λ (k : ℕ). size * k) exact in
          omega (
            arith,
            all,
            mod-eq-sub-mul-div first size,
            mod-lt first {m = size} (omega (arith, least)),
          ),
    )

-- pages in the front of more pages
pub reads_in_front : (bytes : List ℕ) (first n : ℕ) (pages rest : List (List ℕ))
    → n ≤ length pages → ReadsBlocks bytes first n pages → ReadsBlocks bytes first n (pages ++ rest)
reads_in_front bytes first n pages rest few reads = record {
  within = reads.within;
  some = reads.some;
  told_pages = take-append-le n pages rest few ∙ reads.told_pages;
}

-- segments that tell nothing
pub none_tell : {S : Type 0} (told : S → Option Source) (size : ℕ) (segments : List S)
    → ((segment : S) → told segment ≡ None) → AreWholeExceptLast size (map told segments)
none_tell told size [] silent = tt
none_tell told size (last ∷ []) silent = tt
none_tell told size (first ∷ next ∷ behind) silent = (
  subst (λ o. IfSome o (λ s. block_count s.bytes ≡ size)) (sym (silent first)) tt,
  none_tell told size (next ∷ behind) silent,
)
