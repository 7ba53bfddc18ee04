-- The verdict on a page that is to be a certain block.
use Rattle.std.proofs.Common.{◌≡◌, ◌≢◌, ℕ, ◌+◌, ◌/◌, ◌%◌, ◌≤◌, List, Bool, true, false, refl}
use Rattle.std.proofs.Common.{inl, inr, sym, ap, ◌∙◌, arith, get_or, length, eq-eqb}
use Rattle.std.specs.Prelude.{bit_xor}
use Rattle.std.proofs.Math.ListN.{set}
use Rattle.std.proofs.lemmas.Bool.{cases_Bool}
use Rattle.std.proofs.lemmas.List.{get_or-set_same, get_or-set_other, length-set, set-set}
use Rattle.std.proofs.lemmas.List.{set_comm}
use Rattle.page_check.specs.PageBytes.{IsPage}
use Rattle.page_check.specs.Fields.{header_of, u16_at}
use Rattle.page_check.specs.Verdict.{verdict_of, is_sane, is_all_zero, IsValid}
use Rattle.page_check.specs.Checksum.{has_checksum, verdict_as, IsValidAs, checksum_of}
use Rattle.page_check.specs.Checksum.{columns_joined, with_checksum, without_checksum}
use Rattle.page_check.specs.declared.verdict.Verdict.TheVariants.{Sane, Bad}
use Rattle.page_check.specs.SynchronousAnswer.{zero_page}
use Rattle.page_check.proofs.ValidPages.{zero_not_sane}

-- where checksums do not count, it is the verdict on the page
pub verdict_as-off : (block : ℕ) (page : List ℕ) → verdict_as false block page ≡ verdict_of page
unfolding verdict_as verdict_of
verdict_as-off block page =
    elim (cases_Bool (is_sane (header_of page))) [
      | inl sane ↦ rw sane refl
      | inr insane ↦ rw insane refl
    ]

-- so it is where the page has its checksum
pub verdict_as-has : (block : ℕ) (page : List ℕ) → has_checksum block page ≡ true
    → verdict_as true block page ≡ verdict_of page
unfolding verdict_as verdict_of
verdict_as-has block page has =
    elim (cases_Bool (is_sane (header_of page))) [
      | inl sane ↦ rw (sane, has) refl
      | inr insane ↦ rw insane refl
    ]

-- and where the page is zeros or bad
pub verdict_as-unsane : (block : ℕ) (page : List ℕ) → verdict_of page ≢ Sane
    → verdict_as true block page ≡ verdict_of page
unfolding verdict_as verdict_of
verdict_as-unsane block page unsane =
    elim (cases_Bool (is_all_zero page)) [
      | inl zeros ↦ rw zeros refl
      | inr some ↦ elim (cases_Bool (is_sane (header_of page))) [
        | inl sane ↦ absurd (unsane (rw (some, sane) refl))
        | inr insane ↦ rw (some, insane) refl
      ]
    ]

-- a page with a sane header and another checksum is bad
pub verdict_as-lacks : (block : ℕ) (page : List ℕ) → verdict_of page ≡ Sane
    → has_checksum block page ≡ false → verdict_as true block page ≡ Bad
unfolding verdict_as verdict_of
verdict_as-lacks block page is lacks =
    elim (cases_Bool (is_all_zero page)) [
      | inl zeros ↦ (let zero = rw zeros at is in cc)
      | inr some ↦ elim (cases_Bool (is_sane (header_of page))) [
        | inl sane ↦ rw (some, sane, lacks) refl
        | inr insane ↦ rw (some, insane) refl
      ]
    ]

-- a page that is valid as a block is valid
pub valid_as-valid : (checksums : Bool) (block : ℕ) (page : List ℕ)
    → IsValidAs checksums block page → IsValid page
unfolding verdict_as verdict_of
valid_as-valid checksums block page valid bad =
    elim (cases_Bool (is_all_zero page)) [
      | inl zeros ↦ (let zero = rw zeros at bad in cc)
      | inr some ↦ elim (cases_Bool (is_sane (header_of page))) [
        | inl sane ↦ (let is = rw (some, sane) at bad in cc)
        | inr insane ↦ valid (rw (some, insane) refl)
      ]
    ]

-- zeros in place of a damaged page are a valid page, as any block
pub zero_page_valid_as : (checksums : Bool) (block : ℕ) → IsValidAs checksums block zero_page
unfolding verdict_as
zero_page_valid_as checksums block = λ bad. absurd (cc)

-- what stands in the place of the checksum is taken out again
without-with : (page : List ℕ) (sum : ℕ)
    → without_checksum (with_checksum sum page) ≡ without_checksum page
without-with page sum =
    let low = sum % 256 in
    let high = sum / 256 in
    ap (λ (xs : List ℕ). set xs 9 0)
    (set_comm (set page 8 low) 9 8 high 0 (λ e. absurd (omega arith))
    ∙ ap (λ (xs : List ℕ). set xs 9 high) (set-set page 8 low 0))
    ∙ set-set (set page 8 0) 9 high 0

-- so it does not count
pub checksum_of-with : (page : List ℕ) (block sum : ℕ)
    → checksum_of (with_checksum sum page) block ≡ checksum_of page block
unfolding checksum_of
checksum_of-with page block sum =
    ap (λ (bytes : List ℕ). bit_xor (columns_joined bytes 32) block % 65535 + 1)
    (without-with page sum)

u16-behind : (page : List ℕ) (sum offset : ℕ) → 10 ≤ offset
    → u16_at (with_checksum sum page) offset ≡ u16_at page offset
unfolding u16_at
u16-behind page sum offset behind =
    let other : (i : ℕ) → 10 ≤ i → get_or (with_checksum sum page) i 0 ≡ get_or page i 0 =
    λ i far. get_or-set_other (set page 8 (sum % 256)) 9 i (sum / 256) 0 (λ e. absurd (omega arith))
    ∙ get_or-set_other page 8 i (sum % 256) 0 (λ e. absurd (omega arith)) in
    omega (arith, other offset behind, other (offset + 1) (omega arith))

u16-own : (page : List ℕ) (sum : ℕ) → length page ≡ 8192
    → u16_at (with_checksum sum page) 8 ≡ sum
unfolding u16_at
u16-own page sum size =
    let low = sum % 256 in
    let high = sum / 256 in
    let many : length (set page 8 low) ≡ 8192 = length-set page 8 low ∙ size in
    let first : get_or (with_checksum sum page) 8 0 ≡ low =
    get_or-set_other (set page 8 low) 9 8 high 0 (λ e. absurd (omega arith))
    ∙ get_or-set_same page 8 low 0 (omega arith) in
    let second : get_or (with_checksum sum page) 9 0 ≡ high =
    get_or-set_same (set page 8 low) 9 high 0 (omega arith) in
    omega arith

sane-with : (page : List ℕ) (sum : ℕ)
    → is_sane (header_of (with_checksum sum page)) ≡ is_sane (header_of page)
unfolding header_of
sane-with page sum =
    let flags = u16-behind page sum 10 (omega arith) in
    let lower = u16-behind page sum 12 (omega arith) in
    let upper = u16-behind page sum 14 (omega arith) in
    let special = u16-behind page sum 16 (omega arith) in
    rw (flags, lower, upper, special) refl

own-checksum : (page : List ℕ) (sum : ℕ) → length page ≡ 8192
    → (header_of (with_checksum sum page)).checksum ≡ sum
unfolding header_of
own-checksum page sum size = u16-own page sum size

-- a page with a sane header and its checksum is sane
sane-has : (block : ℕ) (page : List ℕ) → is_sane (header_of page) ≡ true
    → has_checksum block page ≡ true → verdict_as true block page ≡ Sane
unfolding verdict_as
sane-has block page sane has =
    elim (cases_Bool (is_all_zero page)) [
      | inl zeros ↦ absurd (zero_not_sane page zeros sane)
      | inr some ↦ rw (some, sane, has) refl
    ]

pub verified-with : (page : List ℕ) (block : ℕ) → IsPage page → is_sane (header_of page) ≡ true
    → verdict_as true block (with_checksum (checksum_of page block) page) ≡ Sane
verified-with page block is sane =
    let sum = checksum_of page block in
    let given = with_checksum sum page in
    let same : (header_of given).checksum ≡ checksum_of given block =
    own-checksum page sum is.size ∙ sym (checksum_of-with page block sum) in
    sane-has block given (sane-with page sum ∙ sane)
    (eq-eqb (header_of given).checksum (checksum_of given block) same)
