-- What follows from the verdict on a page.
use Rattle.std.proofs.Common.{◌≡◌, ◌≢◌, ℕ, zero, suc, ◌+◌, ◌*◌, ◌<◌, ◌≤◌, List, [], ◌∷◌, length}
use Rattle.std.proofs.Common.{All, IsTrue, get_or, arith, Bool, true, false, refl}
use Rattle.std.proofs.lemmas.Bool.Decides.{nat_tests}
use Rattle.page_check.specs.declared.fields.PageHeader.{PageHeader}
use Rattle.page_check.specs.declared.verdict.Verdict.TheVariants.{Zero, Sane, Bad}
use Rattle.page_check.specs.Fields.{header_of, u16_at}
use Rattle.page_check.specs.Verdict.{IsValid, verdict_of, is_sane, is_all_zero}
use Rattle.page_check.specs.SynchronousAnswer.{zero_page}
use Rattle.page_check.specs.LinePointers.{line_pointer_count}

sane_lower : (header : PageHeader) → is_sane header ≡ true → header.lower ≤ 8192
sane_lower header sane = grind (arith, nat_tests)

sane_upper : (header : PageHeader) → is_sane header ≡ true → header.upper ≢ 0
sane_upper header sane = grind (arith, nat_tests)

zero_byte : (bytes : List ℕ) (i : ℕ) → is_all_zero bytes ≡ true → get_or bytes i 0 ≡ 0
zero_byte [] i zeros = refl
zero_byte (x ∷ xs) zero zeros = grind (arith, nat_tests)
zero_byte (x ∷ xs) (suc i) zeros =
    let rest : is_all_zero xs ≡ true = grind (arith, nat_tests) in
    zero_byte xs i rest

zero_u16 : (page : List ℕ) (offset : ℕ) → is_all_zero page ≡ true → u16_at page offset ≡ 0
unfolding u16_at
zero_u16 page offset zeros =
    omega (arith, zero_byte page offset zeros, zero_byte page (offset + 1) zeros)

zero_at : (bytes : List ℕ) → is_all_zero bytes ≡ true → (k d : ℕ) → k < length bytes
    → get_or bytes k d ≡ 0
zero_at [] zeros k d below = absurd (omega arith)
zero_at (x ∷ xs) zeros zero d below = grind (arith, nat_tests)
zero_at (x ∷ xs) zeros (suc k) d below =
    let rest : is_all_zero xs ≡ true = grind (arith, nat_tests) in
    zero_at xs rest k d (omega arith)

-- the test for zeros says that each byte is 0
pub all_zero : (bytes : List ℕ) → is_all_zero bytes ≡ true → All (λ byte. byte ≡ 0) bytes
all_zero bytes zeros = zero_at bytes zeros

-- and comes out true where each byte is
pub zero_where_all : (bytes : List ℕ) → All (λ byte. byte ≡ 0) bytes → is_all_zero bytes ≡ true
zero_where_all [] each = refl
zero_where_all (x ∷ xs) each =
    let first : x ≡ 0 = each 0 0 (omega arith) in
    let rest : is_all_zero xs ≡ true =
    zero_where_all xs (λ k d below. each (suc k) d (omega arith)) in
    grind (arith, nat_tests)

pub zero_upper : (page : List ℕ) → is_all_zero page ≡ true → (header_of page).upper ≡ 0
unfolding header_of
zero_upper page zeros = zero_u16 page 14 zeros

zero_lower : (page : List ℕ) → is_all_zero page ≡ true → (header_of page).lower ≤ 8192
unfolding header_of
zero_lower page zeros = omega (arith, zero_u16 page 12 zeros)

-- a page of zeros has no sane header, since its upper is 0
pub zero_not_sane : (page : List ℕ) → is_all_zero page ≡ true → is_sane (header_of page) ≡ true → ⊥
zero_not_sane page zeros sane = sane_upper (header_of page) sane (zero_upper page zeros)

pub zero_excludes_sane : (page : List ℕ) → All (λ byte. byte ≡ 0) page
    → IsTrue (is_sane (header_of page)) → ⊥
zero_excludes_sane page zeros sane = zero_not_sane page (zero_where_all page zeros) sane

sane_not_zero : (zeros sane : Bool) (page : List ℕ) → is_all_zero page ≡ zeros
    → is_sane (header_of page) ≡ sane
    → sane ≡ true → zeros ≡ false
sane_not_zero true true page none is so = absurd (zero_not_sane page none is)
sane_not_zero false true page none is so = refl
sane_not_zero zeros false page none is so = cc

pub verdict_of-sane : (page : List ℕ) → is_sane (header_of page) ≡ true → verdict_of page ≡ Sane
unfolding verdict_of
verdict_of-sane page sane =
    let not_zero : is_all_zero page ≡ false =
    sane_not_zero (is_all_zero page) (is_sane (header_of page)) page refl refl sane in
    rw (not_zero, sane) refl

pub verdict_of-zero : (page : List ℕ) → is_all_zero page ≡ true → verdict_of page ≡ Zero
unfolding verdict_of
verdict_of-zero page zeros = rw zeros refl

-- zeros in place of a damaged page are a valid page
pub zero_page_valid : IsValid zero_page
unfolding verdict_of
zero_page_valid = λ bad. absurd (cc)

pub verdict_of-bad : (page : List ℕ) → is_all_zero page ≡ false → is_sane (header_of page) ≡ false
    → verdict_of page ≡ Bad
unfolding verdict_of
verdict_of-bad page some insane = rw (some, insane) refl

lower_by : (zeros sane : Bool) (page : List ℕ) → is_all_zero page ≡ zeros
    → is_sane (header_of page) ≡ sane
    → IsValid page → (header_of page).lower ≤ 8192
lower_by true sane page none is valid = zero_lower page none
lower_by false true page some is valid = sane_lower (header_of page) is
lower_by false false page some is valid = absurd (valid (verdict_of-bad page some is))

pub lower_of_valid : (page : List ℕ) → IsValid page → (header_of page).lower ≤ 8192
lower_of_valid page valid =
    lower_by (is_all_zero page) (is_sane (header_of page)) page refl refl valid

-- the line pointers of a valid page lie in it
pub line_pointer_fits : (page : List ℕ) (index : ℕ) → IsValid page → index < line_pointer_count page
    → 24 + 4 * index + 4 ≤ 8192
unfolding line_pointer_count
line_pointer_fits page index valid below = omega (arith, lower_of_valid page valid)

-- PostgreSQL calls a page new where its upper is 0 (`PageIsNew`); a valid one is then all zeros
new_by : (zeros sane : Bool) (page : List ℕ) → is_all_zero page ≡ zeros
    → is_sane (header_of page) ≡ sane
    → IsValid page → (header_of page).upper ≡ 0 → verdict_of page ≡ Zero
new_by true sane page none is valid new = verdict_of-zero page none
new_by false true page some is valid new = absurd (sane_upper (header_of page) is new)
new_by false false page some is valid new = absurd (valid (verdict_of-bad page some is))

pub verdict_of-new : (page : List ℕ) → IsValid page → (header_of page).upper ≡ 0
    → verdict_of page ≡ Zero
verdict_of-new page valid new =
    new_by (is_all_zero page) (is_sane (header_of page)) page refl refl valid new

-- and sane where it is not
used_by : (zeros sane : Bool) (page : List ℕ) → is_all_zero page ≡ zeros
    → is_sane (header_of page) ≡ sane
    → IsValid page → (header_of page).upper ≢ 0 → verdict_of page ≡ Sane
used_by true sane page none is valid used = absurd (used (zero_upper page none))
used_by false true page some is valid used = verdict_of-sane page is
used_by false false page some is valid used = absurd (valid (verdict_of-bad page some is))

pub verdict_of-used : (page : List ℕ) → IsValid page → (header_of page).upper ≢ 0
    → verdict_of page ≡ Sane
verdict_of-used page valid used =
    used_by (is_all_zero page) (is_sane (header_of page)) page refl refl valid used

-- what a verdict says of the page
zero_by : (zeros sane : Bool) (page : List ℕ) → is_all_zero page ≡ zeros
    → is_sane (header_of page) ≡ sane
    → verdict_of page ≡ Zero → is_all_zero page ≡ true
zero_by true sane page none is so = none
zero_by false true page some is so = (let other = verdict_of-sane page is in cc)
zero_by false false page some is so = (let other = verdict_of-bad page some is in cc)

pub is_all_zero-verdict : (page : List ℕ) → verdict_of page ≡ Zero → is_all_zero page ≡ true
is_all_zero-verdict page so =
    zero_by (is_all_zero page) (is_sane (header_of page)) page refl refl so

sane_by : (zeros sane : Bool) (page : List ℕ) → is_all_zero page ≡ zeros
    → is_sane (header_of page) ≡ sane
    → verdict_of page ≡ Sane → is_sane (header_of page) ≡ true
sane_by true sane page none is so = (let other = verdict_of-zero page none in cc)
sane_by false true page some is so = is
sane_by false false page some is so = (let other = verdict_of-bad page some is in cc)

pub is_sane-verdict : (page : List ℕ) → verdict_of page ≡ Sane → is_sane (header_of page) ≡ true
is_sane-verdict page sane =
    sane_by (is_all_zero page) (is_sane (header_of page)) page refl refl sane

-- all fields of a page of zeros are 0, and it has no line pointers
pub header_of-zero : (page : List ℕ) → is_all_zero page ≡ true
    → ((header_of page).lower ≡ 0) × ((header_of page).upper ≡ 0) × ((header_of page).special ≡ 0)
unfolding header_of
header_of-zero page zeros = (zero_u16 page 12 zeros, zero_u16 page 14 zeros, zero_u16 page 16 zeros)

pub line_pointer_count-zero : (page : List ℕ) → is_all_zero page ≡ true
    → line_pointer_count page ≡ 0
unfolding line_pointer_count
line_pointer_count-zero page zeros = omega (arith, (header_of-zero page zeros).0)

-- the bounds of a sane header end with the page
pub sane_bounds : (header : PageHeader) → is_sane header ≡ true
    → (header.lower ≤ 8192) × (header.upper ≤ 8192) × (header.special ≤ 8192)
sane_bounds header sane =
    (sane_lower header sane, grind (arith, nat_tests), grind (arith, nat_tests))
