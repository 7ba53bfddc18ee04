-- Pages whose bytes were given, and runs of them.
use Rattle.std.proofs.Common.{◌≡◌, ◌⊎◌, ℕ, ◌+◌, ◌-◌, ◌*◌, ◌/◌, ◌^◌, ◌<◌, ◌≤◌, zero, suc, List, []}
use Rattle.std.proofs.Common.{◌∷◌, ◌++◌, length, map, take, drop, min, refl, sym, ap, ◌∙◌, arith}
use Rattle.std.proofs.Common.{inl, inr, subst}
use Rattle.std.specs.Prelude.{Option, Some, None, IfSome}
use Rattle.std.specs.List.{range_with_len}
use Rattle.std.specs.Simd.{first_chunks}
use Rattle.std.proofs.lemmas.List.{take-take, drop-drop, drop-take, length-take, length-take-le}
use Rattle.std.proofs.lemmas.List.{length-drop, append-nil}
use Rattle.page_check.specs.Told.{block_contents, block_count}
use Rattle.aio_disk.specs.Disk.{ReadsBlocks}
use Rattle.aio_disk.specs.Source.{Source, HoldsBytes, GivesBlock}

-- no more was given than there is
given_within : (bytes given : List ℕ) (offset got : ℕ) → got ≤ length given
    → HoldsBytes bytes offset got given → got ≤ length bytes - offset
given_within bytes given offset got few bytes_held =
    omega (
      arith,
      length-take-le got given few,
      ap length bytes_held,
      length-take got (drop offset bytes),
      length-drop offset bytes,
    )

-- a block of what was given is one of the source
page_shift : (bytes given : List ℕ) (first got i : ℕ) → HoldsBytes bytes (8192 * first) got given
    → 8192 * i + 8192 ≤ got → block_contents (take got given) i ≡ block_contents bytes (first + i)
unfolding block_contents
page_shift bytes given first got i bytes_held below =
    let rest = got - 8192 * i in
    let whole : got ≡ 8192 * i + rest = omega arith in
    let offset = 8192 * first in
    let place : offset + 8192 * i ≡ 8192 * (first + i) = omega arith in
    ap (λ (l : List ℕ). take 8192 (drop (8192 * i) l)) bytes_held
    ∙ ap (λ (n : ℕ). take 8192 (drop (8192 * i) (take n (drop offset bytes)))) whole
    ∙ ap (take 8192) (drop-take (8192 * i) rest (drop offset bytes))
    ∙ take-take 8192 rest (drop (8192 * i) (drop offset bytes)) (omega arith)
    ∙ ap (take 8192) (drop-drop (8192 * i) offset bytes)
    ∙ ap (λ (n : ℕ). take 8192 (drop n bytes)) place

pub map_shift : {X : Type 0} (f g : ℕ → X) (first a n : ℕ)
    → ((i : ℕ) → i < a + n → f i ≡ g (first + i))
    → map f (range_with_len a n) ≡ map g (range_with_len (first + a) n)
map_shift f g first a zero same = refl
map_shift {X} f g first a (suc n) same =
    let here : f a ≡ g (first + a) = same a (omega arith) in
    let next : first + (a + 1) ≡ first + a + 1 = omega arith in
    let rest = map_shift f g first (a + 1) n (λ i below. same i (omega arith))
    ∙ ap (λ (k : ℕ). map g (range_with_len k n)) next in
    rw (here, rest) refl

blocks_within : (bytes : List ℕ) (first got n : ℕ) → n ≡ got / 8192
    → got ≤ length bytes - 8192 * first → first + n < 2 ^ 32 → n ≤ block_count bytes - first
unfolding block_count
blocks_within bytes first got n count within blocks = omega arith

blocks_some : (bytes given : List ℕ) (first got n : ℕ) → 8192 ≤ length given → n ≡ got / 8192
    → (min (length given) 8192 ≤ got) ⊎ (length bytes ≤ 8192 * first + got)
    → first < block_count bytes → 0 < n
unfolding block_count
blocks_some bytes given first got n room count (inl whole) below = omega arith
blocks_some bytes given first got n room count (inr all) below = omega arith

-- the pages of a run
pub run_given : (b : Option Source) (given : List ℕ) (pages : List (List ℕ)) (first got n : ℕ)
    → 8192 ≤ length given → got ≤ length given → n ≡ got / 8192 → first + n < 2 ^ 32
    → take n pages ≡ map (block_contents (take got given)) (range_with_len 0 n)
    → IfSome b (λ s. GivesBlock s.bytes (8192 * first) got given)
    → IfSome b (λ s. ReadsBlocks s.bytes first n pages)
run_given None given pages first got n room few count blocks copied gives = tt
run_given (Some s) given pages first got n room few count blocks copied gives =
    let within = given_within s.bytes given (8192 * first) got few gives.bytes_held in
    let start : first + 0 ≡ first = omega arith in record {
      within = blocks_within s.bytes first got n count within blocks;
      some = blocks_some s.bytes given first got n room count gives.enough;
      told_pages = copied
          ∙ map_shift (block_contents (take got given)) (block_contents s.bytes) first 0 n
          (λ i below. page_shift s.bytes given first got i gives.bytes_held (omega arith))
          ∙ ap (λ (k : ℕ). map (block_contents s.bytes) (range_with_len k n)) start;
    }

-- the first pages of a row are the whole blocks of the bytes that were written to it
pub row_held : (k : ℕ) (given : List ℕ) (n got : ℕ) → n ≤ k → 8192 * n ≤ got
    → take n (first_chunks 8192 k given) ≡ map (block_contents (take got given))
    (range_with_len 0 n)
unfolding block_contents
row_held k given zero got few whole = refl
row_held zero given (suc n) got few whole = absurd (omega arith)
row_held (suc k) given (suc n) got few whole =
    let rest = got - 8192 in
    let all : got ≡ 8192 + rest = omega arith in
    let later = drop 8192 given in
    let start : 0 ≡ 8192 * 0 = omega arith in
    let first : take 8192 given ≡ block_contents (take got given) 0 =
    sym (take-take 8192 got given (omega arith))
    ∙ ap (λ (m : ℕ). take 8192 (drop m (take got given))) start in
    let shifted : (i : ℕ) → block_contents (take rest later) i
    ≡ block_contents (take got given) (1 + i) = λ i.
    let place : 8192 + 8192 * i ≡ 8192 * (1 + i) = omega arith in
    ap (λ (l : List ℕ). take 8192 (drop (8192 * i) l)) (sym (drop-take 8192 rest given))
    ∙ ap (λ (m : ℕ). take 8192 (drop (8192 * i) (drop 8192 (take m given)))) (sym all)
    ∙ ap (take 8192) (drop-drop (8192 * i) 8192 (take got given))
    ∙ ap (λ (m : ℕ). take 8192 (drop m (take got given))) place in
    ap (λ (l : List (List ℕ)). take 8192 given ∷ l)
    (row_held k later n rest (omega arith) (omega arith)
    ∙ map_shift (block_contents (take rest later)) (block_contents (take got given)) 1 0 n
    (λ i below. shifted i))
    ∙ ap (λ (l : List ℕ). l ∷ map (block_contents (take got given)) (range_with_len 1 n)) first

-- the pages that were read in place, beside none
pub row_given : (b : Option Source) (given : List ℕ) (others : List (List ℕ)) (k first got n : ℕ)
    → 0 < k → length given ≡ k * 8192 → others ≡ [] → got ≤ length given → n ≡ got / 8192
    → first + k < 2 ^ 32 → IfSome b (λ s. GivesBlock s.bytes (8192 * first) got given)
    → IfSome b (λ s. ReadsBlocks s.bytes first n (first_chunks 8192 k given ++ others))
row_given b given others k first got n some size none few count blocks gives =
    let pages = first_chunks 8192 k given in
    let alone : pages ≡ pages ++ others =
    sym (ap (λ (l : List (List ℕ)). pages ++ l) none ∙ append-nil pages) in
    subst (λ (l : List (List ℕ)). IfSome b (λ s. ReadsBlocks s.bytes first n l)) alone
    (run_given b given pages first got n (omega arith) few count (omega arith)
    (row_held k given n got (omega arith) (omega arith)) gives)

-- there is no block of the greatest number
pub no_block : (bytes : List ℕ) (first : ℕ) → 2 ^ 32 ≤ first + 1 → first < block_count bytes → ⊥
unfolding block_count
no_block bytes first last below = omega arith
