-- Worked pages: what the definitions say of them.
use Rattle.std.proofs.Common.{◌≡◌, ℕ, ◌/◌, ◌%◌, List, [], ◌∷◌, ◌++◌, replicate, refl, length, zero}
use Rattle.std.proofs.Common.{suc, map, ◌<◌, arith, ap, sym, ◌∙◌, Bool, false}
use Rattle.std.specs.Prelude.{⊤}
use Rattle.std.proofs.lemmas.Option.{slice_get_within, same_Some}
use Rattle.std.specs.List.{range_with_len}
use Rattle.page_check.specs.SynchronousAnswer.{Reading, Known, Unknown}
use Rattle.page_check.specs.Checksum.{verdict_as}
use Rattle.page_check.specs.Told.{Told, told_in, segments_joined, block_contents, block_count}
use Rattle.page_check.specs.Told.{relation_block_count}
use Rattle.page_check.specs.SynchronousAnswer.{Entry, End, Invalid, PastEnd, found_at, read_count}
use Rattle.page_check.specs.SynchronousAnswer.{readable_pages, list_ending, Given, Unread, Reader}
use Rattle.page_check.specs.declared.rules.PageRules.{PageRules}
use Rattle.page_check.specs.declared.rules.DamagedPages.{DamagedPages}
use Rattle.page_check.specs.declared.rules.DamagedPages.TheVariants as damaged_pages
use Rattle.page_check.specs.declared.rules.PageMark.{PageMark}
use Rattle.page_check.specs.declared.rules.PageMark.TheVariants.{Valid, Zeroed, Damaged}
use Rattle.page_check.specs.IsAnswer.{Answers, IsAnswer}
use Rattle.page_check.specs.Fields.{u16_at, u32_at, header_of}
use Rattle.page_check.specs.declared.verdict.Verdict.TheVariants.{Zero, Sane, Bad}
use Rattle.page_check.specs.declared.fields.Kind.TheVariants.{Unused, Normal, Redirect, Dead}
use Rattle.page_check.specs.PageBytes.{IsPage}
use Rattle.page_check.specs.Verdict.{verdict_of}
use Rattle.page_check.specs.LinePointers.{line_pointer_count, line_pointer_of, line_pointers_of}

abbrev two : ℕ → List ℕ
two n = n % 256 ∷ n / 256 ∷ []

-- a header with these fields, and what stands behind it
abbrev page_with : ℕ → ℕ → ℕ → ℕ → List ℕ → List ℕ
page_with flags lower upper special rest =
    replicate 10 0
    ++ (two flags
    ++ (two lower ++ (two upper ++ (two special ++ (two 8196 ++ (replicate 4 0 ++ rest))))))

empty : verdict_of (page_with 0 24 8192 8192 (replicate 8168 0)) ≡ Sane
unfolding verdict_of header_of u16_at u32_at
empty = refl

empty_any : (rest : List ℕ) → verdict_of (page_with 0 24 8192 8192 rest) ≡ Sane
unfolding verdict_of header_of u16_at u32_at
empty_any rest = refl

zeros : verdict_of (replicate 8192 0) ≡ Zero
unfolding verdict_of header_of u16_at u32_at
zeros = refl

one_byte : verdict_of (replicate 8000 0 ++ (1 ∷ replicate 191 0)) ≡ Bad
unfolding verdict_of header_of u16_at u32_at
one_byte = refl

-- a list of 100 bytes can be valid, but is no page that may be given
abbrev short : List ℕ
short = page_with 0 24 8192 8192 (replicate 76 0)

short_is_not_given : (verdict_of short ≡ Sane) × (IsPage short → ⊥)
unfolding verdict_of header_of u16_at u32_at
short_is_not_given = (refl, λ page. absurd (omega (arith, page.size)))

normal : line_pointers_of (page_with 0 28 8152 8192 (216 ∷ 159 ∷ 80 ∷ 0 ∷ replicate 8164 0))
    ≡ (record { offset = 8152; kind = Normal; length = 40 } ∷ [])
unfolding line_pointers_of line_pointer_of line_pointer_count header_of u16_at u32_at
normal = refl

redirect : line_pointers_of (page_with 0 28 8152 8192 (5 ∷ 0 ∷ 1 ∷ 0 ∷ replicate 8164 0))
    ≡ (record { offset = 5; kind = Redirect; length = 0 } ∷ [])
unfolding line_pointers_of line_pointer_of line_pointer_count header_of u16_at u32_at
redirect = refl

dead : line_pointers_of (page_with 0 28 8152 8192 (0 ∷ 128 ∷ 1 ∷ 0 ∷ replicate 8164 0))
    ≡ (record { offset = 0; kind = Dead; length = 0 } ∷ [])
unfolding line_pointers_of line_pointer_of line_pointer_count header_of u16_at u32_at
dead = refl

flag : (verdict_of (page_with 8 24 8192 8192 (replicate 8168 0)) ≡ Bad)
    × (verdict_of (page_with 7 24 8192 8192 (replicate 8168 0)) ≡ Sane)
unfolding verdict_of header_of u16_at u32_at
flag = (refl, refl)

special : (verdict_of (page_with 0 24 8184 8188 (replicate 8168 0)) ≡ Bad)
    × (verdict_of (page_with 0 24 8184 8184 (replicate 8168 0)) ≡ Sane)
unfolding verdict_of header_of u16_at u32_at
special = (refl, refl)

thirty : line_pointers_of (page_with 0 30 8192 8192 (replicate 8168 0))
    ≡ (record { offset = 0; kind = Unused; length = 0 } ∷ [])
unfolding line_pointers_of line_pointer_of line_pointer_count header_of u16_at u32_at
thirty = refl

twenty : line_pointers_of (page_with 0 20 8192 8192 (replicate 8168 0)) ≡ []
unfolding line_pointers_of line_pointer_of line_pointer_count header_of u16_at u32_at
twenty = refl

abbrev E : List ℕ
E = page_with 0 24 8192 8192 (replicate 8168 0)

abbrev flagged : List ℕ
flagged = page_with 8 24 8192 8192 (replicate 8168 0)

abbrev pages : ℕ → List ℕ → List ℕ
pages zero rest = rest
pages (suc n) rest = E ++ pages n rest

abbrev blocks : ℕ → ℕ → List (Entry (Unit {0}))
blocks first n =
    map (λ b. record { relation = 0; block = b; per_buffer_data = tt }) (range_with_len first n)

abbrev block : ℕ → Entry (Unit {0})
block b = record { relation = 0; block = b; per_buffer_data = tt }

-- an empty page, given for its block
abbrev of_block : ℕ → Given (Unit {0})
of_block b = record { entry = block b; page = E; mark = Valid }

-- one relation in one file, with the segment size that PostgreSQL is built with
abbrev of_one_file : List ℕ → Told
of_one_file bytes = told_in 131072 ((bytes ∷ []) ∷ [])

abbrev reading : Bool → DamagedPages → PageRules
reading sums damaged = record { checksums = sums; damaged = damaged }

abbrev refusing : PageRules
refusing = reading false damaged_pages.Refuse

-- 14 pages with a bad one at block 12, blocks 10 to 13: two pages, then the bad one
abbrev bad_at_12 : Told
bad_at_12 = of_one_file (pages 12 (flagged ++ pages 1 []))

two_before_the_bad : (length (readable_pages (found_at refusing bad_at_12) (blocks 10 4)) ≡ 2)
    × (list_ending (found_at refusing bad_at_12) (blocks 10 4) ≡ Invalid 12)
unfolding read_count found_at segments_joined block_contents block_count verdict_as header_of u16_at
    u32_at
two_before_the_bad = (refl, refl)

-- with damaged pages zeroed all four are given, the third as zeros
abbrev zeroing_at_12 : Reader
zeroing_at_12 = found_at (reading false damaged_pages.Zero) bad_at_12

zeros_in_place_of_the_bad :
    (map {B = ℕ × PageMark} (λ (g : Given (Unit {0})). (g.entry.block, g.mark))
    (readable_pages zeroing_at_12 (blocks 10 4))
    ≡ ((10, Valid) ∷ (11, Valid) ∷ (12, Zeroed) ∷ (13, Valid) ∷ []))
    × (list_ending zeroing_at_12 (blocks 10 4) ≡ End)
unfolding read_count found_at segments_joined block_contents block_count verdict_as header_of u16_at
    u32_at
zeros_in_place_of_the_bad = (refl, refl)

the_zeroed_page_has_no_set_byte : readable_pages zeroing_at_12 (blocks 12 1)
    ≡ (record { entry = block 12; page = replicate 8192 0; mark = Zeroed } ∷ [])
unfolding read_count found_at segments_joined block_contents block_count verdict_as header_of u16_at
    u32_at
the_zeroed_page_has_no_set_byte = refl

-- with damaged pages given all four are, the third as it is
abbrev giving_at_12 : Reader
giving_at_12 = found_at (reading false damaged_pages.Give) bad_at_12

the_bad_is_given_as_it_is :
    (readable_pages giving_at_12 (blocks 11 3)
    ≡ (of_block 11 ∷ record { entry = block 12; page = flagged; mark = Damaged } ∷ of_block 13 ∷ []))
    × (list_ending giving_at_12 (blocks 11 3) ≡ End)
unfolding read_count found_at segments_joined block_contents block_count verdict_as header_of u16_at
    u32_at
the_bad_is_given_as_it_is = (refl, refl)

-- 4 pages, blocks 3 to 4: one page, then past the end
abbrev four : Told
four = of_one_file (pages 4 [])

one_before_the_end :
    (readable_pages (found_at refusing four) (blocks 3 2)
    ≡ (of_block 3 ∷ []))
    × (list_ending (found_at refusing four) (blocks 3 2) ≡ PastEnd 4)
unfolding read_count found_at segments_joined block_contents block_count verdict_as header_of u16_at
    u32_at
one_before_the_end = (refl, refl)

-- but a block that is not there is no page of zeros
no_zeros_past_the_end : list_ending (found_at (reading false damaged_pages.Zero) four) (blocks 3 2) ≡ PastEnd 4
unfolding read_count found_at segments_joined block_contents block_count verdict_as header_of u16_at
    u32_at
no_zeros_past_the_end = refl

-- 8191 bytes are no block, and an empty list ends at once
no_block : (relation_block_count (of_one_file (replicate 8191 0)) 0 ≡ 0)
    × (list_ending {P = Unit {0}} (found_at refusing (of_one_file (replicate 8191 0))) [] ≡ End)
unfolding segments_joined block_count read_count
no_block = (refl, refl)

-- what may be answered to the blocks 3 and 4 of the four pages
abbrev IsAnswered : Answers (Unit {0}) → Type 0
IsAnswered = IsAnswer (Known (found_at refusing four)) (λ _. ⊤) (blocks 3 2)

abbrev three : Given (Unit {0})
three = of_block 3

-- nothing yet, or the page of block 3
no_answer_yet : IsAnswered (record { pages = []; endings = [] })
no_answer_yet = record { first = (readable_pages (found_at refusing four) (blocks 3 2), refl); endings = tt }

one_page_so_far : IsAnswered (record { pages = three ∷ []; endings = [] })
unfolding read_count found_at segments_joined block_contents block_count verdict_as header_of u16_at
    u32_at
one_page_so_far = record { first = ([], refl); endings = tt }

-- then the ending, which stays
past_the_end_twice : IsAnswered
    (record { pages = three ∷ []; endings = PastEnd 4 ∷ PastEnd 4 ∷ [] })
unfolding read_count found_at segments_joined block_contents block_count verdict_as header_of u16_at
    u32_at
past_the_end_twice = record {
  first = ([], refl);
  endings = ((refl, refl), λ k d below. (let first : k ≡ 0 = omega arith in rw first refl));
}

-- all pages of the blocks 2 and 3, then the end, which stays
the_end_twice : IsAnswer (Known (found_at refusing four)) (λ _. ⊤) (blocks 2 2) (record {
  pages = of_block 2 ∷ three ∷ [];
  endings = End ∷ End ∷ [];
})
unfolding read_count found_at segments_joined block_contents block_count verdict_as header_of u16_at
    u32_at
the_end_twice = record {
  first = ([], refl);
  endings = ((refl, refl), λ k d below. (let first : k ≡ 0 = omega arith in rw first refl));
}

-- the block behind the end may be one that was not read
unread_where_reading_stops : IsAnswered (record { pages = three ∷ []; endings = Unread 4 ∷ [] })
unfolding read_count found_at segments_joined block_contents block_count verdict_as header_of u16_at
    u32_at
unread_where_reading_stops = record {
  first = ([], refl);
  endings = (
    record { next = block 4; here = refl; named = refl; cause = tt },
    λ k d below. absurd (omega arith),
  );
}

-- but none behind the last block was not read
none_unread_behind_the_last : (found : Reading) (b : ℕ) (pages : List (Given (Unit {0})))
    → length pages ≡ 2
    → IsAnswer found (λ _. ⊤) (blocks 3 2) (record { pages = pages; endings = Unread b ∷ [] }) → ⊥
none_unread_behind_the_last found b pages two answer =
    let stops = answer.endings.0 in
    let below : length pages < 2 =
    slice_get_within (blocks 3 2) (length pages) stops.next stops.here in
    absurd (omega arith)

-- where nothing is told, the end comes behind the last block alone
no_end_before_the_last : (pages : List (Given (Unit {0})))
    → IsAnswer (Unknown refusing) (λ _. ⊤) (blocks 3 2) (record { pages = pages; endings = End ∷ [] })
    → length pages ≡ 2
no_end_before_the_last pages answer = answer.endings.0

-- and an invalid page is that of the next block
invalid_is_the_next : (b : ℕ)
    → IsAnswer (Unknown refusing) (λ _. ⊤) (blocks 3 2) (record { pages = []; endings = Invalid b ∷ [] }) → b ≡ 3
invalid_is_the_next b answer =
    let stops = answer.endings.0 in
    let next = same_Some (block 3) stops.next stops.here in
    stops.named ∙ sym (ap (λ (e : Entry (Unit {0})). e.block) next)
