-- Generated pages are valid, and stand in their file one behind the other.
use Rattle.std.proofs.Common.{◌≡◌, ◌≢◌, ℕ, zero, suc, ◌+◌, ◌*◌, ◌/◌, ◌%◌, ◌<◌, ◌≤◌, List, ◌++◌}
use Rattle.std.proofs.Common.{take, drop, length, replicate, refl, ap, ◌∙◌, arith}
use Rattle.std.proofs.Common.{length-append, Bool, true, false, []}
use Rattle.std.specs.Prelude.{flat_map, ◌==◌, if◌then◌else◌, nat_le}
use Rattle.std.specs.List.{range_with_len}
use Rattle.std.proofs.Math.Seq.{drop-append-add}
use Rattle.std.proofs.lemmas.List.{take_at, length-replicate}
use Rattle.page_check.specs.Fields.{header_of, u16_at, u32_at}
use Rattle.page_check.specs.Told.{block_contents, relation_page, block_count, relation_block_count}
use Rattle.page_check.proofs.Segments.{blocks_of_one, page_of_first}
use Rattle.page_check.proofs.VerifiedPages.{verdict_as-off}
use Rattle.page_check.specs.Verdict.{verdict_of}
use Rattle.page_check.specs.LinePointers.{line_pointer_count}
use Rattle.page_check.specs.declared.rules.PageRules.{PageRules}
use Rattle.page_check.specs.declared.rules.DamagedPages.{DamagedPages}
use Rattle.page_check.specs.declared.rules.PageMark.TheVariants.{Valid}
use Rattle.page_check.specs.declared.verdict.Verdict.{Verdict}
use Rattle.page_check.specs.declared.verdict.Verdict.TheVariants.{Zero, Sane, Bad}
use Rattle.page_check.specs.SynchronousAnswer.{Page as FoundPage, found_at, found_by_verdict}
use Rattle.std.proofs.lemmas.Bool.Decides.{nat_tests}
use Rattle.generated_pages.specs.GeneratedPages.{generated_page, generated_file, generated_told}
use Rattle.generated_pages.specs.GeneratedPages.{page_with_items}

zeros_are_new : verdict_of (replicate 8192 0) ≡ Zero
unfolding verdict_of
zeros_are_new = refl

-- a page with so many items is sane, has so many, and is as long as a page
abbrev IsPageWith : ℕ → Type 0
IsPageWith items =
    (verdict_of (page_with_items items) ≡ Sane)
    × (line_pointer_count (page_with_items items) ≡ items)
    × (length (page_with_items items) ≡ 8192)

no_items : IsPageWith 0
unfolding verdict_of line_pointer_count header_of u16_at u32_at
no_items = (refl, refl, refl)

one_item : IsPageWith 1
unfolding verdict_of line_pointer_count header_of u16_at u32_at
one_item = (refl, refl, refl)

two_items : IsPageWith 2
unfolding verdict_of line_pointer_count header_of u16_at u32_at
two_items = (refl, refl, refl)

three_items : IsPageWith 3
unfolding verdict_of line_pointer_count header_of u16_at u32_at
three_items = (refl, refl, refl)

four_items : IsPageWith 4
unfolding verdict_of line_pointer_count header_of u16_at u32_at
four_items = (refl, refl, refl)

few_items : (items : ℕ) → items < 5 → IsPageWith items
few_items zero below = no_items
few_items (suc zero) below = one_item
few_items (suc (suc zero)) below = two_items
few_items (suc (suc (suc zero))) below = three_items
few_items (suc (suc (suc (suc zero)))) below = four_items
few_items (suc (suc (suc (suc (suc n))))) below = absurd (omega arith)

module _ (f : ℕ → List ℕ) (size : ℕ) (each : (b : ℕ) → length (f b) ≡ size) where
  pieces_length : (start n : ℕ) → length (flat_map f (range_with_len start n)) ≡ size * n
  pieces_length start zero = omega arith
  pieces_length start (suc n) =
      let more : size * suc n ≡ size + size * n = grind arith in
      omega (
        arith,
        length-append (f start) (flat_map f (range_with_len (start + 1) n)),
        each start,
        pieces_length (start + 1) n,
      )

  piece_at : (start n b : ℕ) → b < n
      → take size (drop (size * b) (flat_map f (range_with_len start n))) ≡ f (start + b)
  piece_at start zero b below = absurd (omega arith)
  piece_at start (suc n) zero below =
      let none : size * 0 ≡ 0 = grind arith in
      let here : start ≡ start + 0 = omega arith in
      let rest = flat_map f (range_with_len (start + 1) n) in
      ap (λ (k : ℕ). take size (drop k (f start ++ rest))) none
      ∙ take_at (f start) rest size (each start) ∙ ap f here
  piece_at start (suc n) (suc b) below =
      let rest = flat_map f (range_with_len (start + 1) n) in
      let more : size * suc b ≡ length (f start) + size * b =
      (let parts : size * suc b ≡ size + size * b = grind arith in omega (arith, each start)) in
      let here : (start + 1) + b ≡ start + suc b = omega arith in
      ap (λ (k : ℕ). take size (drop k (f start ++ rest))) more
      ∙ ap (take size) (drop-append-add (f start) rest (size * b))
      ∙ piece_at (start + 1) n b (omega arith) ∙ ap f here

found_valid : (damaged : DamagedPages) (verdict : Verdict) (page : List ℕ) → verdict ≢ Bad
    → found_by_verdict damaged verdict page ≡ FoundPage Valid page
found_valid damaged Zero page valid = refl
found_valid damaged Sane page valid = refl
found_valid damaged Bad page valid = absurd (valid refl)

zeros_length : length (replicate {A = ℕ} 8192 0) ≡ 8192
zeros_length = length-replicate {A = ℕ} 8192 0

page_by : (zeros : Bool) (block : ℕ)
    → (verdict_of (if zeros then replicate 8192 0 else page_with_items (block % 5)) ≢ Bad)
    × (length (if zeros then replicate 8192 0 else page_with_items (block % 5)) ≡ 8192)
page_by true block = (λ bad. (let new = zeros_are_new in cc), zeros_length)
page_by false block =
    let few : block % 5 < 5 = omega arith in
    let is = few_items (block % 5) few in (λ bad. (let sane = is.0 in cc), is.2)

pub generated_page_valid : (block : ℕ) → verdict_of (generated_page block) ≢ Bad
unfolding generated_page
generated_page_valid block = (page_by (block % 7 == 6) block).0

generated_page_length : (block : ℕ) → length (generated_page block) ≡ 8192
unfolding generated_page
generated_page_length block = (page_by (block % 7 == 6) block).1

file_length : (pages : ℕ) → length (generated_file pages) / 8192 ≡ pages
unfolding generated_file
file_length pages =
    let size = pieces_length generated_page 8192 generated_page_length 0 pages in
    let blocks : 8192 * pages / 8192 ≡ pages = omega arith in
    rw size blocks

file_blocks : (pages : ℕ) → pages ≤ 4096 → block_count (generated_file pages) ≡ pages
unfolding block_count
file_blocks pages few = let blocks = file_length pages in rw blocks (omega arith)

-- the relation has these blocks
pub generated_block_count : (pages : ℕ) → pages ≤ 4096
    → relation_block_count (generated_told pages) 0 ≡ pages
generated_block_count pages few =
    blocks_of_one 131072 (generated_file pages) ∙ file_blocks pages few

file_at : (pages block : ℕ) → block < pages
    → block_contents (generated_file pages) block ≡ generated_page block
unfolding generated_file block_contents
file_at pages block below =
    piece_at generated_page 8192 generated_page_length 0 pages block below
    ∙ ap generated_page (omega arith)

pub page_of_generated : (pages block : ℕ) → block < pages
    → relation_page (generated_told pages) 0 block ≡ generated_page block
page_of_generated pages block below =
    page_of_first 131072 (generated_file pages) [] block (omega (arith, file_length pages))
    ∙ file_at pages block below

-- and each gives its page
pub found_of_generated : (rules : PageRules) → rules.checksums ≡ false → (pages block : ℕ)
    → pages ≤ 4096 → block < pages
    → found_at rules (generated_told pages) 0 block ≡ FoundPage Valid (generated_page block)
unfolding found_at
found_of_generated rules off pages block few below =
    let count = generated_block_count pages few in
    let inside : nat_le pages block ≡ false = grind (arith, nat_tests) in
    rw (
      off,
      count,
      inside,
      page_of_generated pages block below,
      verdict_as-off block (generated_page block),
    )
    (found_valid rules.damaged (verdict_of (generated_page block)) (generated_page block)
    (generated_page_valid block))
